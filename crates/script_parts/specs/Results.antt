-- Results that may stand among declared data sets.
use Rattle.std.specs.Prelude.{◌≡◌, true, false, List, [], ◌∷◌, ◌++◌}
use Rattle.vtl_tree.specs.Structures.{Named, has_name, is_declarable}
use Rattle.vtl_tree.specs.Trees.{NodeTree, structure_of}
use Rattle.vtl_check.specs.Transformations.{Transformation}

-- Each transformation has a node and gives a new name, and its structure may be declared.
abbrev pub AreResults : Named → List Transformation → List NodeTree → Type 0
AreResults known [] [] = Unit {0}
AreResults known (t ∷ ts) (n ∷ ns) = (has_name t.name known ≡ false) × (is_declarable (structure_of n) ≡ true) × AreResults (known ++ (t.name, structure_of n) ∷ []) ts ns
AreResults known ts ns = ⊥
