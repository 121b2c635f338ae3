use Rattle.std.proofs.Common.{◌≡◌, take}
use Rattle.vtl_tree.specs.Shown.{shown}
use Rattle.vtl_tree.specs.Joins.{structures_of}
use Rattle.check_joins.proofs.joined.structures_of.Given as goal

abbrev pub invariant-loop-operand : goal.invariant-loop-operand
invariant-loop-operand l = shown l.structures.items ≡ structures_of (take l.operand-index l.operands)
