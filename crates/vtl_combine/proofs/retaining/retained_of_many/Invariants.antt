use Rattle.std.proofs.Common.{◌≡◌, take}
use Rattle.vtl_combine.specs.Operands.{retained_by}
use Rattle.vtl_combine.proofs.retaining.retained_of_many.Given as goal

abbrev pub invariant-loop-row : goal.invariant-loop-row
invariant-loop-row g l = l.kept.items ≡ retained_by l.retain l.seeker l.table.rows (take l.row-index l.rows)
