-- The tuples of identifiers of operands, in tables.
use Rattle.std.specs.Prelude.{ℕ, ◌++◌, [], ◌∷◌, List, length, map}
use Rattle.std.specs.List.{flat_map, range_with_len}
use Rattle.vtl_cell.specs.Row.{Row}
use Rattle.vtl_cell.specs.declared.kind.Kind.{Kind}
use Rattle.vtl_cell.specs.declared.kind.Kind.TheVariants as k
use Rattle.vtl_rows.specs.Tables.{cells_at}
use Rattle.vtl_tree.specs.Environment.{DataSet}
use Rattle.vtl_tree.specs.Structure.{columns_of}
use Rattle.vtl_tree.specs.declared.structure.Component.{Component}
use Rattle.vtl_tree.specs.declared.structure.Structure.{Structure}
use Rattle.vtl_tree.specs.Columns.{places_in}

-- the places of identifiers, and one behind all columns, whose cells are null
abbrev pub key_places : List Component → Structure → List ℕ
key_places ids a = places_in (columns_of a) ids ++ length (columns_of a) ∷ []

-- the kinds of the columns of keys
abbrev pub key_kinds : List Component → List Kind
key_kinds ids = map (λ x. x.kind) ids ++ k.Null ∷ []

-- the rows of keys of an operand, and of all operands
abbrev pub key_rows : List Component → DataSet → List Row
key_rows ids d = map (cells_at (key_places ids d.structure)) d.points

abbrev pub all_key_rows : List Component → List DataSet → List Row
all_key_rows ids ds = flat_map (key_rows ids) ds

-- the identifiers of a row of keys
abbrev pub key_cells : List Component → Row → Row
key_cells ids r = cells_at (range_with_len 0 (length ids)) r
