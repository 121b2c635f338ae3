use Rattle.std.proofs.Common.{◌≡◌, drop}
use Rattle.vtl_tree.specs.Shown.{shown}
use Rattle.vtl_csv.specs.InputFile.{named_by}
use Rattle.vtl_csv.proofs.header.is_named.Given as goal

abbrev pub invariant-loop-i : goal.invariant-loop-i
invariant-loop-i l = named_by (drop l.i (shown l.columns)) l.field ≡ named_by (shown l.columns) l.field
