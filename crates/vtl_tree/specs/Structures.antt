-- Named structures, in order, and what each of them is.
use Rattle.std.specs.Prelude.{ℕ, ◌≡◌, ◌<◌, if◌then◌else◌, Bool, true, false, not, ◌&&◌, ◌==◌, List, [], ◌∷◌, ◌++◌, length, nat_le}
use Rattle.std.specs.List.{list_all, list_any}
use Rattle.std.specs.Map.{keys_of, lookup}
use Rattle.std.specs.Option.{option_map_or}
use Rattle.vtl_lists.specs.Apart.{all_apart}
use Rattle.vtl_text.specs.Words.{is_component_name}
use Rattle.vtl_cell.specs.declared.kind.Kind.{Kind}
use Rattle.vtl_cell.specs.declared.kind.Kind.TheVariants as k
use Rattle.vtl_tree.specs.declared.structure.Role.{Role}
use Rattle.vtl_tree.specs.declared.structure.Role.TheVariants as role
use Rattle.vtl_tree.specs.declared.structure.Component.{Component}
use Rattle.vtl_tree.specs.declared.structure.Structure.{Structure}
use Rattle.vtl_tree.specs.Structure.{most_components, names_of, same_name, same_role}

abbrev pub is_null_kind : Kind → Bool
is_null_kind k.Null = true
is_null_kind kind = false

abbrev pub is_text_kind : Kind → Bool
is_text_kind k.Text = true
is_text_kind kind = false

-- only such a component may list its texts
abbrev pub is_string_identifier : Role → Kind → Bool
is_string_identifier r kind = same_role r role.Identifier && is_text_kind kind

abbrev pub is_filled : List ℕ → Bool
is_filled text = not (length text == 0)

-- at least one text, each distinct from the others and none empty
abbrev pub are_codes : List (List ℕ) → Bool
are_codes texts = not (length texts == 0) && list_all is_filled texts && all_apart same_name texts

-- codes stand on a string identifier alone
abbrev pub codes_fit : Component → Bool
codes_fit x = option_map_or (λ texts. is_string_identifier x.role x.kind && are_codes texts) x.codes true

-- a component as it may be declared
abbrev pub is_declarable_component : Component → Bool
is_declarable_component x = is_component_name x.name && not (is_null_kind x.kind) && codes_fit x

abbrev pub are_declarable : List Component → Bool
are_declarable xs = nat_le 1 (length xs) && nat_le (length xs) most_components && all_apart same_name (names_of xs) && list_all is_declarable_component xs

-- a structure as it may be declared: 1 to `most_components` components with distinct names, each as it may be declared
abbrev pub is_declarable : Structure → Bool
is_declarable s = are_declarable s.components

-- structures with their names
abbrev pub Named : Type 0
Named = List (List ℕ × Structure)

abbrev pub is_declarable_entry : List ℕ × Structure → Bool
is_declarable_entry e = is_declarable e.1

abbrev pub has_name : List ℕ → Named → Bool
has_name name xs = list_any (same_name name) (keys_of xs)

-- each is as it may be declared, and the names are distinct
pub record AreStructures (xs : Named) : Type 0 where
  pub declarable : list_all is_declarable_entry xs ≡ true
  pub distinct : all_apart same_name (keys_of xs) ≡ true

abbrev pub structure_of : List Component → Structure
structure_of xs = record { components = xs }

-- the components that a data set has so far
abbrev pub components_of : List ℕ → Named → List Component
components_of name xs = option_map_or (λ s. s.components) (lookup (same_name name) xs) []

-- with one more component, the last of its data set; a new data set goes last
abbrev pub with_component : List ℕ → Component → Named → Named
with_component name x [] = (name, structure_of (x ∷ [])) ∷ []
with_component name x (e ∷ es) = if same_name name e.0 then (e.0, structure_of (e.1.components ++ x ∷ [])) ∷ es else e ∷ with_component name x es

-- the component may be added to a data set with these components
abbrev pub Fits : Component → List Component → Type 0
Fits x xs = (is_declarable_component x ≡ true) × (list_any (same_name x.name) (names_of xs) ≡ false) × (length xs < most_components)
