-- Structures by name, and which of their components are never null.
use Rattle.std.specs.Prelude.{ℕ, ◌≡◌, Bool, true, not, ◌&&◌, List, [], ◌∷◌, ◌++◌, unwrap_or, if◌then◌else◌}
use Rattle.std.specs.List.{AllByRecursion, flat_map, list_all, list_any}
use Rattle.std.specs.Map.{lookup}
use Rattle.vtl_lists.specs.Apart.{all_apart}
use Rattle.vtl_tree.specs.declared.structure.Component.{Component}
use Rattle.vtl_tree.specs.declared.structure.Role.TheVariants as role
use Rattle.vtl_tree.specs.declared.structure.Structure.{Structure}
use Rattle.vtl_tree.specs.Structure.{same_name, same_role}
use Rattle.vtl_tree.specs.Structures.{Named}

-- a component of this name that is no identifier
abbrev pub is_no_identifier : List ℕ → Component → Bool
is_no_identifier name x = same_name name x.name && not (same_role x.role role.Identifier)

-- distinct names of components of the structure that are no identifiers
abbrev pub are_not_null : Structure → List (List ℕ) → Bool
are_not_null s names = list_all (λ n. list_any (is_no_identifier n) s.components) names && all_apart same_name names

-- names of structures, each with the names of its not-null components
abbrev pub NotNull : Type 0
NotNull = List (List ℕ × List (List ℕ))

-- structures with their names, and the not-null lists of those that have not-null components
pub record Declared : Type 0 where
  pub sets : Named
  pub not_null : NotNull

abbrev pub no_sets : Declared
no_sets = record { sets = []; not_null = [] }

-- the not-null list of a name, which is empty where none is kept
abbrev pub not_null_of : List ℕ → NotNull → List (List ℕ)
not_null_of name ls = unwrap_or (lookup (same_name name) ls) []

-- a list as it is kept with its name; an empty one is not kept
abbrev pub with_list : List ℕ → List (List ℕ) → NotNull
with_list name [] = []
with_list name (n ∷ ns) = (name, n ∷ ns) ∷ []

-- the list of a data set, once one more name stands last on the list of the data set of this name
abbrev pub longer_list : List ℕ → List ℕ → NotNull → List ℕ → List (List ℕ)
longer_list dataset name ls other = if same_name dataset other then not_null_of other ls ++ name ∷ [] else not_null_of other ls

-- the lists of these data sets, in their order, once one more name stands last on the list of one of them
abbrev pub with_name : List ℕ → List ℕ → Named → NotNull → NotNull
with_name dataset name sets ls = flat_map (λ e. with_list e.0 (longer_list dataset name ls e.0)) sets

-- the lists are those of the data sets, in their order, and each fits its structure
pub record HaveLists (sets : Named) (ls : NotNull) : Type 0 where
  pub ordered : ls ≡ flat_map (λ e. with_list e.0 (not_null_of e.0 ls)) sets
  pub fit : AllByRecursion (λ e. are_not_null e.1 (not_null_of e.0 ls) ≡ true) sets
