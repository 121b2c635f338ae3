use Rattle.std.proofs.Common.{◌≡◌, drop}
use Rattle.vtl_tree.specs.Operands.{is_within}
use Rattle.vtl_tree.proofs.operands.is_within.Given as goal

abbrev pub invariant-loop-component : goal.invariant-loop-component
invariant-loop-component l = is_within l.compared l.role (drop l.component-index l.components) l.others ≡ is_within l.compared l.role l.components l.others
