-- The measures of rows as points of their own.
use Rattle.std.specs.Prelude.{ℕ, cond, Option, None, Some, List, [], ◌∷◌, ◌++◌}
use Rattle.std.specs.List.{filter_map}
use Rattle.vtl_cell.specs.Kinds.{is_null}
use Rattle.vtl_cell.specs.Row.{Row, column_of}
use Rattle.vtl_cell.specs.declared.cell.Cell.TheVariants as c
use Rattle.vtl_rows.specs.Tables.{cells_at}
use Rattle.vtl_tree.specs.declared.structure.Component.{Component}
use Rattle.vtl_tree.specs.Columns.{place_of}
use Rattle.vtl_combine.specs.declared.unpivoting.NamedMeasure.{NamedMeasure}

-- a name and a place
abbrev pub Named : Type 0
Named = List ℕ × ℕ

abbrev pub measure_by : NamedMeasure → Named
measure_by m = (m.name.now, m.place)

-- a measure among these columns
abbrev pub measure_in : List Component → Component → Named
measure_in xs x = (x.name, place_of x.name xs)

-- the identifiers of a row, the name of a measure and its value, where it has one
abbrev pub named_row : List ℕ → Row → Named → Option Row
named_row identifiers r m = cond (is_null (column_of m.1 r)) None (Some (cells_at identifiers r ++ c.Text m.0 ∷ column_of m.1 r ∷ []))

abbrev pub unpivoted : List ℕ → List Named → Row → List Row
unpivoted identifiers ms r = filter_map (named_row identifiers r) ms
