-- Aggregates with places in place of names.
use Rattle.std.specs.Prelude.{◌<◌, ℕ, List, map, length, Option, Some, None, Ok}
use Rattle.std.specs.List.{AllByRecursion, position_or_len}
use Rattle.std.specs.Option.{option_map_or}
use Rattle.vtl_cell.specs.Groups.{count_of_points, group_value}
use Rattle.vtl_cell.specs.Outcome.{Outcome}
use Rattle.vtl_cell.specs.Row.{Row, column_of}
use Rattle.vtl_decimal.specs.Settings.{Settings}
use Rattle.vtl_cell.specs.declared.cell.Cell.{Cell}
use Rattle.vtl_cell.specs.declared.cell.Cell.TheVariants as c
use Rattle.vtl_cell.specs.declared.operator.AggKind.{AggKind}
use Rattle.vtl_rows.specs.Places.{row_at}
use Rattle.vtl_rows.specs.declared.column.Column.{Column}
use Rattle.vtl_tree.specs.Structure.{same_name}
use Rattle.vtl_tree.specs.declared.expression.AggCall.{AggCall}
use Rattle.vtl_tree.specs.declared.specifications.AggItems.{AggItems}
use Rattle.vtl_meaning.specs.Aggregates.{call_for}
use Rattle.vtl_group.specs.declared.calls.Call.{Call}
use Rattle.vtl_group.specs.declared.calls.Call.TheVariants as call

-- ---- rows by their numbers
abbrev pub rows_at : List Row → List ℕ → List Row
rows_at rows numbers = map (row_at rows) numbers

abbrev pub AreWithin : List Row → List ℕ → Type 0
AreWithin rows numbers = AllByRecursion (λ i. i < length rows) numbers

-- ---- aggregates

-- the value at a group of these points
abbrev pub call_value : Settings → Call → (points : List Row) → Outcome Cell
call_value p call.Nothing points = Ok c.Null
call_value p call.Points points = count_of_points p points
call_value p (call.Cells kind place) points = group_value p kind (map (column_of place) points)

-- the place of the column of this name in a table
abbrev pub column_place : List ℕ → List Column → ℕ
column_place name cs = position_or_len (λ x. same_name x.name name) cs

abbrev pub placed : List Column → AggKind → Option (List ℕ) → Call
placed cs kind None = call.Points
placed cs kind (Some name) = call.Cells kind (column_place name cs)

abbrev pub placed_call : List Column → AggCall → Call
placed_call cs a = placed cs a.kind a.component

-- what makes the column of this name
abbrev pub placed_for : List Column → AggItems → List ℕ → Call
placed_for cs i name = option_map_or (placed_call cs) (call_for i name) call.Nothing
