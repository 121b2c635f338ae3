-- Names of components, and the roles that places ask for.
use Rattle.std.specs.Prelude.{ℕ, Bool, true, not, List, Option, find}
use Rattle.std.specs.List.{list_any}
use Rattle.vtl_syntax.specs.declared.parts.Comp.{Comp}
use Rattle.vtl_syntax.specs.declared.parts.Comp.TheVariants as comp
use Rattle.vtl_tree.specs.Structure.{same_name, same_role}
use Rattle.vtl_tree.specs.declared.structure.Role.{Role}
use Rattle.vtl_tree.specs.declared.structure.Role.TheVariants as role
use Rattle.vtl_tree.specs.declared.structure.Component.{Component}
use Rattle.vtl_tree.specs.declared.names.Wanted.{Wanted}
use Rattle.vtl_tree.specs.declared.names.Wanted.TheVariants as wanted

-- the name of a component, quoted or not
abbrev pub name_of : Comp → List ℕ
name_of (comp.Name name) = name
name_of (comp.Quoted name) = name

abbrev pub is_among : List ℕ → List (List ℕ) → Bool
is_among name names = list_any (λ other. same_name other name) names

-- the component of this name
abbrev pub component_of : List ℕ → List Component → Option Component
component_of name xs = find (λ x. same_name x.name name) xs

-- whether the role serves at a place
abbrev pub serves : Wanted → Role → Bool
serves wanted.Any r = true
serves wanted.Identifier r = same_role r role.Identifier
serves wanted.Measure r = same_role r role.Measure
serves wanted.Value r = not (same_role r role.Identifier)
