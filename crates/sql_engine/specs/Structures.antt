-- The structure that an INPUT declares.
use Rattle.std.specs.Prelude.{List, [], ◌∷◌, map, filter, Option, Some, None, if◌then◌else◌}
use Rattle.sql_tree.specs.Trees.{Text}
use Rattle.sql_tree.specs.declared.statements.InputColumn.{InputColumn}
use Rattle.sql_tree.specs.declared.statements.SqlInput.{SqlInput}
use Rattle.sql_check_parts.specs.Statements.{is_of_key}
use Rattle.vtl_tree.specs.declared.structure.Component.{Component}
use Rattle.vtl_tree.specs.declared.structure.Role.{Role}
use Rattle.vtl_tree.specs.declared.structure.Role.TheVariants as role
use Rattle.vtl_tree.specs.declared.structure.Structure.{Structure}

-- a column of the KEY is an identifier, any other a measure
abbrev pub role_in : List Text → InputColumn → Role
role_in key x = if is_of_key key x then role.Identifier else role.Measure

-- a column without codes may have any text
abbrev pub listed_codes : List Text → Option (List Text)
listed_codes [] = None
listed_codes (t ∷ ts) = Some (t ∷ ts)

abbrev pub component_of : List Text → InputColumn → Component
component_of key x = record { name = x.name; role = role_in key x; kind = x.kind; codes = listed_codes x.codes }

-- a component for each column, in the order in which they are listed
abbrev pub structure_of : SqlInput → Structure
structure_of s = record { components = map (component_of s.key) s.columns }

-- the names of the columns that are NOT NULL, in the order in which they are listed
abbrev pub not_null_of : SqlInput → List Text
not_null_of s = map (λ x. x.name) (filter (λ x. x.not_null) s.columns)
