-- The values of items that are read or taken row by row.
use Rattle.std.specs.Prelude.{List, [], ◌∷◌, map, Ok}
use Rattle.std.specs.Vec.Iter.{into_iter_items}
use Rattle.vtl_cell.specs.Conversion.{as_kind}
use Rattle.vtl_cell.specs.Outcome.{Outcome, after}
use Rattle.vtl_cell.specs.Row.{Row, column_of}
use Rattle.vtl_decimal.specs.Settings.{Settings}
use Rattle.vtl_cell.specs.declared.cell.Cell.{Cell}
use Rattle.vtl_cell.specs.declared.cell.Cell.TheVariants as c
use Rattle.sql_exec.specs.declared.item_cells.ItemCells.{ItemCells}
use Rattle.sql_exec.specs.declared.item_cells.ItemCells.TheVariants as from

-- the values of an item at these rows of FROM, which are the next ones
abbrev pub values_in : Settings → List Row → ItemCells → List (Outcome Cell)
values_in p rows (from.Own place) = map (λ r. Ok (column_of place r)) rows
values_in p rows (from.Made values kind) = map (λ v. after v (as_kind p kind)) (into_iter_items values)

-- the first of some values, null where there is none
abbrev pub first_of : List (Outcome Cell) → Outcome Cell
first_of [] = Ok c.Null
first_of (v ∷ vs) = v

-- the value of an item at the next row, which is this one
abbrev pub next_value : Settings → ItemCells → Row → Outcome Cell
next_value p x r = first_of (values_in p (r ∷ []) x)
