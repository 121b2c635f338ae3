-- What a CSV file asks of the columns of a structure.
use Rattle.std.specs.Prelude.{List, map, if◌then◌else◌}
use Rattle.vtl_tree.specs.declared.structure.Component.{Component}
use Rattle.vtl_tree.specs.declared.structure.Role.TheVariants as r
use Rattle.vtl_tree.specs.declared.structure.Structure.{Structure}
use Rattle.vtl_tree.specs.Structure.{columns_of}
use Rattle.vtl_csv.specs.StructuresFile.{is_identifier}

-- a component of which is told only whether it is an identifier, and not which other role it has
abbrev pub plain : Component → Component
plain x = record x { role = if is_identifier x then r.Identifier else r.Measure }

-- the columns of a structure in their order, with their names, kinds and codes, and which of them are identifiers
abbrev pub plain_columns : Structure → List Component
plain_columns s = map plain (columns_of s)
