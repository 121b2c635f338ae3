-- The nodes of a script: each is made over what is known where its transformation stands.
use Rattle.std.specs.Prelude.{◌≡◌, ℕ, false, true, List, [], ◌∷◌, Option}
use Rattle.std.specs.List.{AllByRecursion, list_any}
use Rattle.std.specs.Map.{lookup}
use Rattle.vtl_decimal.specs.Settings.{Settings}
use Rattle.vtl_syntax.specs.declared.word_groups.CheckOut.{CheckOut}
use Rattle.vtl_tree.specs.Structure.{same_name}
use Rattle.vtl_tree.specs.Structures.{Named, has_name}
use Rattle.vtl_tree.specs.Trees.{NodeTree, structure_of}
use Rattle.check_operators.specs.Typed.{TypedTree}
use Rattle.check_expressions.specs.Rulings.{Rulings}
use Rattle.vtl_check.specs.Names.{names_in}
use Rattle.vtl_check.specs.Transformations.{Transformation}
use Rattle.vtl_scripts.specs.Made.{IsMade}
use Rattle.check_laws.specs.SoundRulings.{env_of}

-- Each transformation gives a new name, and has a node that is made over what was known before and the results of earlier ones.
abbrev pub AreMadeFrom : Settings → Named → List Transformation → List NodeTree → Type 0
AreMadeFrom p known [] [] = Unit {0}
AreMadeFrom p known (t ∷ ts) (n ∷ ns) = (has_name t.name known ≡ false) × IsMade p known n × AreMadeFrom p ((t.name, structure_of n) ∷ known) ts ns
AreMadeFrom p known ts ns = ⊥

-- these names stand for the same structures
abbrev pub AreKnownAlike : Named → Named → List (List ℕ) → Type 0
AreKnownAlike known other names = AllByRecursion (λ name. lookup (same_name name) known ≡ lookup (same_name name) other) names

-- calls give the same over both, of what is known
abbrev pub AreCalledAlike : Settings → Named → Named → Rulings → Type 0
AreCalledAlike p known other called = (name : List ℕ) (o : Option CheckOut) (x : TypedTree) → called.datapoint (env_of p known) name o x ≡ called.datapoint (env_of p other) name o x

-- each name that a transformation reads is one of these, or the result of an earlier one
abbrev pub AreReadFrom : List (List ℕ) → List Transformation → List NodeTree → Type 0
AreReadFrom names [] [] = Unit {0}
AreReadFrom names (t ∷ ts) (n ∷ ns) = AllByRecursion (λ q. list_any (same_name q) names ≡ true) (names_in n) × AreReadFrom (t.name ∷ names) ts ns
AreReadFrom names ts ns = ⊥
