-- Components that are chosen by their roles and names.
use Rattle.std.specs.Prelude.{ℕ, Bool, false, not, ◌&&◌, ◌||◌, List, filter}
use Rattle.std.specs.Option.{option_map_or}
use Rattle.vtl_tree.specs.Structure.{same_role}
use Rattle.vtl_tree.specs.declared.structure.Role.TheVariants as role
use Rattle.vtl_tree.specs.declared.structure.Component.{Component}
use Rattle.vtl_tree.specs.Names.{component_of, is_among}
use Rattle.vtl_tree.specs.declared.choices.Choice.{Choice}
use Rattle.vtl_tree.specs.declared.choices.Choice.TheVariants as choice

abbrev pub is_identifier : Component → Bool
is_identifier x = same_role x.role role.Identifier

-- the component of this name is an identifier
abbrev pub is_identifier_name : List Component → List ℕ → Bool
is_identifier_name xs name = option_map_or is_identifier (component_of name xs) false

-- `keep` and `#` leave the identifiers and what is listed, `drop` and `sub` what is not; `group by` the identifiers that are
-- listed, `group except` and `pivot` those that are not
abbrev pub is_chosen : Choice → List (List ℕ) → Component → Bool
is_chosen choice.Keep names x = is_identifier x || is_among x.name names
is_chosen choice.Drop names x = not (is_among x.name names)
is_chosen choice.By names x = is_identifier x && is_among x.name names
is_chosen choice.Except names x = is_identifier x && not (is_among x.name names)

-- the chosen components, in their order
abbrev pub chosen : Choice → List (List ℕ) → List Component → List Component
chosen c names xs = filter (is_chosen c names) xs
