use Rattle.std.proofs.Common.{length}
use Rattle.vtl_csv.proofs.PlainLineLemmas.{ReadsOn}
use Rattle.vtl_csv.proofs.plain_lines.push_line.Given as goal

abbrev pub invariant-loop-mark : goal.invariant-loop-mark
invariant-loop-mark l = ReadsOn l.text l.fields.items l.rest

abbrev pub decreases-loop-mark : goal.decreases-loop-mark
decreases-loop-mark l = length l.rest
