use Rattle.std.proofs.Common.{◌≡◌, take}
use Rattle.vtl_join.specs.Crossing.{row_counts}
use Rattle.vtl_join.specs.Joining.{sets_of}
use Rattle.vtl_join.proofs.crossing.counts.Given as goal

abbrev pub invariant-loop-operand : goal.invariant-loop-operand
invariant-loop-operand l = l.counts.items ≡ row_counts (sets_of (take l.operand-index l.operands))
