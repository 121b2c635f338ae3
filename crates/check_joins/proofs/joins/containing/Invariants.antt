use Rattle.std.proofs.Common.{◌≡◌, ◌∷◌, drop}
use Rattle.std.specs.Prelude.{find}
use Rattle.vtl_tree.specs.Joins.{containing, contains_all}
use Rattle.check_joins.proofs.joins.containing.Given as goal

abbrev pub invariant-loop-operand : goal.invariant-loop-operand
invariant-loop-operand l = find (contains_all l.operands) (l.left ∷ drop l.operand-index l.operands) ≡ containing l.operands
