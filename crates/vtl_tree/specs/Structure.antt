-- Structures, and the order of their columns.
use Rattle.std.specs.Prelude.{ℕ, ◌≡◌, ◌≤◌, Bool, true, false, List, ◌++◌, map, length, filter}
use Rattle.vtl_lists.specs.Apart.{all_apart}
use Rattle.vtl_text.specs.Texts.{same_text}
use Rattle.vtl_tree.specs.declared.limits.TheConstants.{MAX_COMPONENTS}
use Rattle.vtl_tree.specs.declared.structure.Role.{Role}
use Rattle.vtl_tree.specs.declared.structure.Role.TheVariants as role
use Rattle.vtl_tree.specs.declared.structure.Component.{Component}
use Rattle.vtl_tree.specs.declared.structure.Structure.{Structure}

abbrev pub same_role : Role → Role → Bool
same_role role.Identifier role.Identifier = true
same_role role.Measure role.Measure = true
same_role role.Attribute role.Attribute = true
same_role _ _ = false

abbrev pub same_name : List ℕ → List ℕ → Bool
same_name = same_text

-- the components of one role, in the structure's order
abbrev pub of_role : Role → Structure → List Component
of_role r s = filter (λ x. same_role x.role r) s.components

-- the column order: identifiers, then measures, then attributes
abbrev pub columns_of : Structure → List Component
columns_of s = of_role role.Identifier s ++ of_role role.Measure s ++ of_role role.Attribute s

abbrev pub names_of : List Component → List (List ℕ)
names_of cs = map (λ x. x.name) cs

-- how many components are identifiers
abbrev pub key_width : Structure → ℕ
key_width s = length (of_role role.Identifier s)

-- the most components that a structure may have
abbrev pub most_components : ℕ
most_components = MAX_COMPONENTS

-- no more components than a structure may have, one at least, with distinct names
pub record IsStructure (s : Structure) : Type 0 where
  pub some : 1 ≤ length s.components
  pub few : length s.components ≤ most_components
  pub distinct : all_apart same_name (names_of s.components) ≡ true
