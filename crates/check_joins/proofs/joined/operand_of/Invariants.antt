use Rattle.std.proofs.Common.{◌≡◌, drop}
use Rattle.vtl_tree.specs.Joins.{operand_of}
use Rattle.check_joins.proofs.joined.operand_of.Given as goal

abbrev pub invariant-loop-operand : goal.invariant-loop-operand
invariant-loop-operand l = operand_of l.alias (drop l.operand-index l.operands) ≡ operand_of l.alias l.operands
