-- Columns of the result, cell by cell.
use Rattle.std.specs.Prelude.{List, map, Option}
use Rattle.std.specs.Vec.Iter.{into_iter_items}
use Rattle.vtl_decimal.specs.declared.number.Fault.{Fault}
use Rattle.vtl_cell.specs.Outcome.{Outcome, fault_in, faults_by}
use Rattle.vtl_cell.specs.Row.{Row, column_of}
use Rattle.vtl_cell.specs.declared.cell.Cell.{Cell}
use Rattle.vtl_tree.specs.declared.structure.Component.{Component}
use Rattle.vtl_meaning.specs.Aggregates.{Made}
use Rattle.vtl_meaning.specs.Points.{cell_or_null}
use Rattle.vtl_window.specs.declared.column.Column.{Column}
use Rattle.vtl_window.specs.declared.column.Column.TheVariants as column

-- ---- values, null where they have a fault, and their faults
abbrev pub cells_by : {X : Type 0} → (X → Outcome Cell) → List X → List Cell
cells_by f xs = map (λ x. cell_or_null (f x)) xs

abbrev pub faults_of : {X : Type 0} → (X → Outcome Cell) → List X → Option Fault
faults_of f xs = faults_by (λ x. fault_in (f x)) xs

-- of each column
abbrev pub made_cells : Made → List Component → List Row → List (List Cell)
made_cells made ys points = map (λ y. cells_by (made y) points) ys

abbrev pub made_faults : Made → List Component → List Row → Option Fault
made_faults made ys points = faults_by (λ y. faults_of (made y) points) ys

-- the cells of a column at these points of the operand
abbrev pub cells_in : List Row → Column → List Cell
cells_in points (column.Own place) = map (column_of place) points
cells_in points (column.Made cells) = into_iter_items cells
