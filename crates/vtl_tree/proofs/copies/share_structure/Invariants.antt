use Rattle.std.proofs.Common.{◌≡◌, take}
use Rattle.vtl_tree.proofs.copies.share_structure.Given as goal

abbrev pub invariant-loop-component : goal.invariant-loop-component
invariant-loop-component l = l.components.items ≡ take l.component-index l.structure.components
