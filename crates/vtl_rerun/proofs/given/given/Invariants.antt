use Rattle.std.proofs.Common.{◌≡◌, drop}
use Rattle.vtl_rerun.specs.Operands.{given_all, given_behind}
use Rattle.vtl_rerun.proofs.given.given.Given as goal

abbrev pub invariant-loop-operand : goal.invariant-loop-operand
invariant-loop-operand l = given_behind l.inputs l.results l.tables (drop l.operand-index l.operands) ≡ given_all l.inputs l.results l.operands
