use Rattle.std.proofs.Common.{◌≡◌, take}
use Rattle.vtl_tree.specs.Joins.{held_names}
use Rattle.check_joins.proofs.joined.held_names.Given as goal

abbrev pub invariant-loop-operand : goal.invariant-loop-operand
invariant-loop-operand l = l.out.items ≡ held_names l.kind (take l.operand-index l.operands)
