-- Which transformations depend on a data set.
use Rattle.std.specs.Prelude.{ℕ, Bool, List, [], ◌∷◌, ◌==◌, if◌then◌else◌}
use Rattle.std.specs.List.{list_any}
use Rattle.vtl_tree.specs.Structure.{same_name}
use Rattle.vtl_tree.specs.Trees.{NodeTree}
use Rattle.vtl_check.specs.Checked.{TypedScript, nodes_of, tree_of}
use Rattle.vtl_check.specs.Names.{names_in}
use Rattle.vtl_check.specs.Transformations.{Transformation, transformations}

-- the number is one of these
abbrev pub is_one : ℕ → List ℕ → Bool
is_one i numbers = list_any (λ j. i == j) numbers

-- the expression reads a data set of one of these names
abbrev pub reads_one : List (List ℕ) → NodeTree → Bool
reads_one names n = list_any (λ q. list_any (same_name q) names) (names_in n)

-- the numbers of the transformations that read a data set of one of these names, or the result of such a transformation
abbrev pub dependents : List (List ℕ) → List Transformation → List NodeTree → List ℕ
dependents names (t ∷ ts) (n ∷ ns) = if reads_one names n then t.number ∷ dependents (t.name ∷ names) ts ns else dependents names ts ns
dependents names ts ns = []

-- those that depend on a data set, directly or through results
abbrev pub dependents_of : List ℕ → TypedScript → List ℕ
dependents_of name t = dependents (name ∷ []) (transformations (tree_of t)) (nodes_of t)
