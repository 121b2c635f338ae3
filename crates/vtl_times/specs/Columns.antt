-- Columns of a result, value by value.
use Rattle.std.specs.Prelude.{◌≡◌, ℕ, ◌<◌, true, Ok, Option, Some, List, [], ◌∷◌, map, slice_index_or, if◌then◌else◌}
use Rattle.std.specs.List.{range_with_len}
use Rattle.vtl_cell.specs.Kinds.{is_null}
use Rattle.vtl_cell.specs.Outcome.{Outcome, after, fault_in, faults_by, unless}
use Rattle.vtl_cell.specs.Row.{Row, column_of}
use Rattle.vtl_cell.specs.ScalarPeriods.{shifted_of}
use Rattle.vtl_cell.specs.declared.cell.Cell.{Cell}
use Rattle.vtl_cell.specs.declared.cell.Cell.TheVariants as c
use Rattle.vtl_cell.specs.declared.operator.ScalarOp.TheVariants as op
use Rattle.vtl_decimal.specs.declared.number.Fault.{Fault}
use Rattle.vtl_decimal.specs.Settings.{Settings}
use Rattle.vtl_rows.specs.Places.{row_at}
use Rattle.vtl_rows.specs.Tables.{fits}
use Rattle.vtl_rows.specs.declared.column.Column as tables
use Rattle.vtl_tree.specs.Value.{called}
use Rattle.vtl_meaning.specs.Points.{cell_or_null}
use Rattle.vtl_times.specs.declared.column.Column.{Column}
use Rattle.vtl_times.specs.declared.column.Column.TheVariants as column

-- a value at a place, or null past the last one
abbrev pub outcome_at : List (Outcome Cell) → ℕ → Outcome Cell
outcome_at values i = slice_index_or values i (Ok c.Null)

-- the value of a column at the point of a number, which is this row of the operand
abbrev pub column_value : Settings → Row → ℕ → Column → Outcome Cell
column_value p r i (column.Own place) = Ok (column_of place r)
column_value p r i (column.Later place n) = shifted_of (column_of place r) (Some n)
column_value p r i (column.Total place values) = if is_null (column_of place r) then Ok c.Null else outcome_at values.items i
column_value p r i (column.Less place kind values) = after (outcome_at values.items i) (λ v. called p kind (Ok (column_of place r) ∷ Ok v ∷ []) op.Subtract)

-- of all columns
abbrev pub row_values : Settings → List Column → List Row → ℕ → List (Outcome Cell)
row_values p columns points i = map (column_value p (row_at points i) i) columns

-- a row of values, null where one has a fault, and the fault of them
abbrev pub cells_of : List (Outcome Cell) → Row
cells_of values = map cell_or_null values

abbrev pub fault_of : List (Outcome Cell) → Option Fault
fault_of values = faults_by fault_in values

-- a row for each point, unless a value has a fault
abbrev pub rows_of : (ℕ → List (Outcome Cell)) → ℕ → Outcome (List Row)
rows_of values n = unless (faults_by (λ i. fault_of (values i)) (range_with_len 0 n)) (map (λ i. cells_of (values i)) (range_with_len 0 n))

-- the rows of columns fit those of a table
abbrev pub FitEach : List tables.Column → (ℕ → List (Outcome Cell)) → ℕ → Type 0
FitEach columns values n = (i : ℕ) → i < n → fits columns (cells_of (values i)) ≡ true
