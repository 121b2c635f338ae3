use Rattle.std.proofs.Common.{◌≡◌, drop}
use Rattle.vtl_rerun.specs.Operands.{any_lost}
use Rattle.vtl_rerun.proofs.lost.any_lost.Given as goal

abbrev pub invariant-loop-operand : goal.invariant-loop-operand
invariant-loop-operand l = any_lost l.replaced l.results (drop l.operand-index l.operands) ≡ any_lost l.replaced l.results l.operands
