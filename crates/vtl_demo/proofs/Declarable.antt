-- The structures of the two data sets may be declared.
use Rattle.std.proofs.Common.{◌≡◌, true, refl}
use Rattle.vtl_text.specs.Words.{is_component_name}
use Rattle.vtl_tree.specs.Structures.{is_declarable}
use Rattle.vtl_demo.specs.DataSets.{left_structure, right_structure}

pub left_declarable : is_declarable left_structure ≡ true
unfolding is_component_name lib.Utf8.encode
left_declarable = refl

pub right_declarable : is_declarable right_structure ≡ true
unfolding is_component_name lib.Utf8.encode
right_declarable = refl
