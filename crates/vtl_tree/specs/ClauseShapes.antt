-- What clauses make of the components of their operand.
use Rattle.std.specs.Prelude.{ℕ, Bool, ◌++◌, List, [], ◌∷◌, Option, Some, None, map, find, is_none, if◌then◌else◌, unwrap_or}
use Rattle.vtl_cell.specs.declared.kind.Kind.{Kind}
use Rattle.vtl_cell.specs.declared.kind.Kind.TheVariants as k
use Rattle.vtl_tree.specs.Structure.{names_of, same_name}
use Rattle.vtl_tree.specs.declared.structure.Role.TheVariants as role
use Rattle.vtl_tree.specs.declared.structure.Component.{Component}
use Rattle.vtl_tree.specs.Choices.{chosen}
use Rattle.vtl_tree.specs.Measures.{made}
use Rattle.vtl_tree.specs.Names.{component_of}
use Rattle.vtl_tree.specs.declared.choices.Choice.TheVariants as choice
use Rattle.vtl_tree.specs.declared.targets.Target.{Target}
use Rattle.vtl_tree.specs.declared.renaming.Renaming.{Renaming}

-- the target of this name
abbrev pub target_of : List ℕ → List Target → Option Target
target_of name ts = find (λ t. same_name t.name name) ts

-- a component that is a target keeps its place, and its role where none is written
abbrev pub retargeted : Component → Option Target → Component
retargeted x None = x
retargeted x (Some t) = made x.name (unwrap_or t.role x.role) t.kind

abbrev pub calculated : List Target → Component → Component
calculated ts x = retargeted x (target_of x.name ts)

-- a target as a component of its own is a measure where no role is written
abbrev pub target_component : Target → Component
target_component t = made t.name (unwrap_or t.role role.Measure) t.kind

abbrev pub is_new : List Component → Target → Bool
is_new xs t = is_none (component_of t.name xs)

-- the new name of a component
abbrev pub new_name : List Renaming → List ℕ → List ℕ
new_name [] name = name
new_name (r ∷ rs) name = if same_name r.from name then r.to else new_name rs name

abbrev pub renamed : List Renaming → Component → Component
renamed rs x = record x { name = new_name rs x.name }

abbrev pub code_measure : Kind → List ℕ → Component
code_measure kind text = made text role.Measure kind

abbrev pub pivot_components : List ℕ → Kind → List (List ℕ) → List Component → List Component
pivot_components name kind texts xs = chosen choice.Except (name ∷ []) xs ++ map (code_measure kind) texts

-- the kind of the first
abbrev pub first_kind : List Component → Kind
first_kind [] = k.Null
first_kind (x ∷ xs) = x.kind

-- `unpivot`: the identifiers, an identifier with the names of the measures as its codes, and a measure of their kind
abbrev pub names_column : List ℕ → List Component → Component
names_column name ms = record { name = name; role = role.Identifier; kind = k.Text; codes = Some (names_of ms) }
