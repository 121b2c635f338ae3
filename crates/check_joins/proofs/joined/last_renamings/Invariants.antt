use Rattle.std.proofs.Common.{◌≡◌, take}
use Rattle.vtl_tree.specs.Joins.{last_renamings}
use Rattle.check_joins.proofs.joined.last_renamings.Given as goal

abbrev pub invariant-loop-operand : goal.invariant-loop-operand
invariant-loop-operand l = l.out.items ≡ last_renamings l.kind l.held (take l.operand-index l.operands)
