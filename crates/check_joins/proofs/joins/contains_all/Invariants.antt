use Rattle.std.proofs.Common.{◌≡◌, drop}
use Rattle.vtl_tree.specs.Joins.{contains_all}
use Rattle.check_joins.proofs.joins.contains_all.Given as goal

abbrev pub invariant-loop-other : goal.invariant-loop-other
invariant-loop-other l = contains_all (drop l.other-index l.operands) l.operand ≡ contains_all l.operands l.operand
