use Rattle.std.proofs.Common.{◌≡◌, ◌++◌, take}
use Rattle.vtl_tree.specs.Joins.{all_own}
use Rattle.check_joins.proofs.joined.push_all_own.Given as goal

abbrev pub invariant-loop-operand : goal.invariant-loop-operand
invariant-loop-operand l = l.out.items ≡ l.fn.out.items ++ all_own l.held l.identifiers (take l.operand-index l.operands)
