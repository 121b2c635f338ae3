-- What two runs have alike: inputs as far as a set of components is known, and outputs in one component.
use Rattle.lineage_laws.specs.Agree.{IsKnown, Known}
use Rattle.std.specs.List.{list_any}
use Rattle.std.specs.Prelude.{◌≡◌, ◌⊎◌, ℕ, Bool, true, ◌||◌, List, [], ◌∷◌, ◌++◌, filter, map}
use Rattle.vtl_cell.specs.Row.{Row}
use Rattle.vtl_lists.specs.Perm.{Perm}
use Rattle.vtl_meaning.specs.Agreement.{key_of}
use Rattle.vtl_meaning.specs.LookUps.{value_named, values_named}
use Rattle.vtl_scripts.specs.Meaning.{Outputs}
use Rattle.vtl_tree.specs.Columns.{identifiers_of}
use Rattle.vtl_tree.specs.Environment.{Environment}
use Rattle.vtl_tree.specs.Structure.{columns_of, same_role}
use Rattle.vtl_tree.specs.declared.structure.Component.{Component}
use Rattle.vtl_tree.specs.declared.structure.Role.TheVariants as role
use Rattle.vtl_tree.specs.declared.structure.Structure.{Structure}
use Rattle.vtl_sources.specs.Links.{source_of}
use Rattle.lineage_laws.specs.Over.{Operand}

-- the identifiers of a data set, and its components that are known
abbrev pub is_kept : Known → List ℕ → Component → Bool
is_kept known name x = same_role x.role role.Identifier || known (name, x.name)

abbrev pub restricted : Known → List ℕ → Structure → List Row → List Row
restricted known name s d = map (values_named (columns_of s) (filter (is_kept known name) (columns_of s))) d

-- some component of the data set is known, or it has no identifiers
abbrev pub Occurs : Known → List ℕ → Structure → Type 0
Occurs known name s = (list_any (λ x. known (name, x.name)) (columns_of s) ≡ true) ⊎ (identifiers_of s ≡ [])

-- the same names and structures; each data set that occurs is the same where it is restricted
abbrev pub SameInputs : Known → Environment → Environment → Type 0
SameInputs known [] [] = Unit {0}
SameInputs known (d ∷ ds) (e ∷ es) = (d.0 ≡ e.0) × (d.1.structure ≡ e.1.structure) × (Occurs known d.0 d.1.structure → Perm (restricted known d.0 d.1.structure d.1.points) (restricted known d.0 d.1.structure e.1.points)) × SameInputs known ds es
SameInputs known ds es = ⊥

-- a data set restricted to its identifiers and one component
abbrev pub view : Structure → List ℕ → Row → Row
view s x r = key_of s r ++ value_named (columns_of s) r x ∷ []

-- the outputs of both runs are the same in each component all of whose sources are known
abbrev pub SameOutputs : Known → List (List ℕ × Operand) → Outputs → Outputs → Type 0
SameOutputs known [] [] [] = Unit {0}
SameOutputs known (l ∷ ls) (d ∷ ds) (e ∷ es) =
    (d.0 ≡ l.0) × (e.0 ≡ l.0) × (d.1.structure ≡ l.1.structure) × (e.1.structure ≡ l.1.structure)
    × ((x : List ℕ) → IsKnown known (source_of l.1 x) → Perm (map (view l.1.structure x) d.1.points) (map (view l.1.structure x) e.1.points)) × SameOutputs known ls ds es
SameOutputs known ls ds es = ⊥
