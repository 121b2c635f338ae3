-- The structure of a result is one.
use Rattle.std.proofs.Common.{◌≡◌, List, ap, sym, ◌∙◌}
use Rattle.vtl_tree.specs.Structures.{structure_of}
use Rattle.vtl_tree.specs.declared.structure.Component.{Component}
use Rattle.vtl_tree.specs.declared.structure.Structure.{Structure}

-- structures of the same components
pub same_shape : (s t : Structure) (xs : List Component) → s.components ≡ xs → t.components ≡ xs → s ≡ t
same_shape s t xs h k = ap structure_of (h ∙ sym k)
