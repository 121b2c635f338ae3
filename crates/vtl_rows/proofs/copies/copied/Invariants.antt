use Rattle.vtl_rows.proofs.CopiedRows.{IsCopied}
use Rattle.vtl_rows.proofs.copies.copied.Given as goal

abbrev pub invariant-loop-i : goal.invariant-loop-i
invariant-loop-i l = IsCopied l.pages.items l.width l.count l.i l.copy l.row.items
