-- The last statement that reads each name.
use Rattle.std.specs.Prelude.{◌≡◌, ◌⊎◌, ℕ, zero, suc, Bool, false, true, ◌+◌, ◌≤◌, List, [], ◌∷◌, Option, None, Some}
use Rattle.std.specs.List.{AllByRecursion, list_any}
use Rattle.std.specs.Map.{lookup}
use Rattle.vtl_tree.specs.Environment.{Environment, data_of}
use Rattle.vtl_tree.specs.Structure.{same_name}
use Rattle.vtl_tree.specs.Trees.{NodeTree}
use Rattle.vtl_check.specs.Names.{names_in}

-- names, each with the place of the last statement that reads it
abbrev pub LastPlaces : Type 0
LastPlaces = List (List ℕ × ℕ)

-- there is a place, and it is this one or a later one
abbrev pub IsFrom : ℕ → Option ℕ → Type 0
IsFrom i None = ⊥
IsFrom i (Some place) = i ≤ place

-- a statement at this place or a later one reads the name
abbrev pub IsReadFrom : ℕ → LastPlaces → List ℕ → Type 0
IsReadFrom i last name = IsFrom i (lookup (same_name name) last)

-- each name of the expressions of statements from a place on is read where it stands, or later
abbrev pub AreRead : LastPlaces → ℕ → List NodeTree → Type 0
AreRead last i [] = Unit {0}
AreRead last i (n ∷ ns) = AllByRecursion (IsReadFrom i last) (names_in n) × AreRead last (i + 1) ns

-- no data set is held under the name, unless a statement at this place or a later one reads it
abbrev pub IsGone : ℕ → LastPlaces → Environment → List ℕ → Type 0
IsGone i last env name = (IsReadFrom i last name → ⊥) → data_of name env ≡ None

-- places are noted that were noted before, or this one for one of these names
abbrev pub NotedAs : LastPlaces → ℕ → List (List ℕ) → LastPlaces → Type 0
NotedAs before i names now = (name : List ℕ) (place : ℕ) → lookup (same_name name) now ≡ Some place → (lookup (same_name name) before ≡ Some place) ⊎ ((place ≡ i) × (list_any (same_name name) names ≡ true))

-- whether the expression at a place reads the name
abbrev pub reads_at : List NodeTree → ℕ → List ℕ → Bool
reads_at [] place name = false
reads_at (n ∷ ns) zero name = list_any (same_name name) (names_in n)
reads_at (n ∷ ns) (suc place) name = reads_at ns place name

-- each place is one whose expression reads the name
abbrev pub AreReadThere : LastPlaces → List NodeTree → Type 0
AreReadThere last ns = (name : List ℕ) (place : ℕ) → lookup (same_name name) last ≡ Some place → reads_at ns place name ≡ true
