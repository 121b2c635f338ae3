-- The columns of flows and stocks, value by value.
use Rattle.std.proofs.Common.{◌≡◌, ℕ, true, Ok, if◌then◌else◌, sym, ap, ◌∙◌}
use Rattle.std.specs.Prelude.{IfOk}
use Rattle.std.specs.List.{AllByRecursion}
use Rattle.vtl_lists.proofs.Alls.{all_more}
use Rattle.vtl_cell.specs.Kinds.{is_of}
use Rattle.vtl_cell.specs.Row.{Row, column_of}
use Rattle.vtl_decimal.specs.Settings.{Settings}
use Rattle.vtl_tree.specs.Columns.{place_of}
use Rattle.vtl_tree.specs.DataSet.{IsDataSet, is_point}
use Rattle.vtl_tree.specs.Environment.{DataSet}
use Rattle.vtl_tree.specs.Measures.{is_measure}
use Rattle.vtl_tree.specs.Structure.{columns_of}
use Rattle.vtl_tree.specs.declared.structure.Component.{Component}
use Rattle.vtl_tree.specs.declared.structure.Structure.{Structure}
use Rattle.vtl_meaning.specs.Analytics.{each_point as each_made}
use Rattle.vtl_meaning.specs.LookUps.{value_named}
use Rattle.vtl_meaning.specs.Points.{cell_or_null}
use Rattle.vtl_meaning.proofs.GroupPoints.{HasCell}
use Rattle.vtl_timing.specs.TimeShapes.{IsFlowed}
use Rattle.vtl_timing.specs.Times.{by_measure, flow_value, stock_value}
use Rattle.vtl_timing.proofs.FlowsKept.{flow_cells, flows_kept, stock_cells, stocks_kept}
use Rattle.vtl_times.specs.Along.{value_at}
use Rattle.vtl_times.specs.Flows.{flow_by, made_by}
use Rattle.vtl_times.specs.declared.along.Along.{Along}
use Rattle.vtl_times.specs.declared.along.Along.TheVariants as along

module _ (p : Settings) (d : DataSet) (y : Component) (place : ℕ) (at : place ≡ place_of y.name (columns_of d.structure)) (r : Row) where
  -- of a measure, from what is made along its series
  pub flow_is : (w : Along) → is_measure y ≡ true → made_by w p y.kind (column_of place r) (value_at p w place d r) ≡ flow_by w p d y r
  flow_is along.Totals e =
      ap (λ n. made_by along.Totals p y.kind (column_of n r) (value_at p along.Totals n d r)) at
      ∙ sym (ap (λ b. if b then stock_value p d y r else Ok (value_named (columns_of d.structure) r y.name)) e)
  flow_is along.Previous e =
      ap (λ n. made_by along.Previous p y.kind (column_of n r) (value_at p along.Previous n d r)) at
      ∙ sym (ap (λ b. if b then flow_value p d y r else Ok (value_named (columns_of d.structure) r y.name)) e)

-- ---- a data set of the structure that typing gives
module _ (p : Settings) (d : DataSet) (s : Structure) (given : IsFlowed d.structure s) (held : IsDataSet d.structure d.points) where
  pub flow_kept : (w : Along) → IfOk (each_made (flow_by w p d) (columns_of s) d.points) (IsDataSet s)
  flow_kept along.Totals = stocks_kept p d s given.well_formed given.numbers given.shape held
  flow_kept along.Previous = flows_kept p d s given.well_formed given.numbers given.shape held

  pub flow_fits : (w : Along) (r : Row) → is_point (columns_of d.structure) r ≡ true → AllByRecursion (λ y. is_of y.kind (cell_or_null (flow_by w p d y r)) ≡ true) (columns_of s)
  flow_fits along.Totals r t =
      all_more (λ y. HasCell y (cell_or_null (by_measure (stock_value p d) d.structure y r))) (λ y. is_of y.kind (cell_or_null (by_measure (stock_value p d) d.structure y r)) ≡ true) (λ y h. h.0) (columns_of s)
      (stock_cells p d s given.well_formed given.numbers given.shape held r t)
  flow_fits along.Previous r t =
      all_more (λ y. HasCell y (cell_or_null (by_measure (flow_value p d) d.structure y r))) (λ y. is_of y.kind (cell_or_null (by_measure (flow_value p d) d.structure y r)) ≡ true) (λ y h. h.0) (columns_of s)
      (flow_cells p d s given.well_formed given.numbers given.shape held r t)
