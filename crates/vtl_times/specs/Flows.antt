-- What flows and stocks are made of, by what is made along the series.
use Rattle.std.specs.Prelude.{Ok, [], ◌∷◌, if◌then◌else◌}
use Rattle.vtl_cell.specs.Kinds.{is_null}
use Rattle.vtl_cell.specs.Outcome.{Outcome, after}
use Rattle.vtl_cell.specs.declared.cell.Cell.{Cell}
use Rattle.vtl_cell.specs.declared.cell.Cell.TheVariants as c
use Rattle.vtl_cell.specs.declared.kind.Kind.{Kind}
use Rattle.vtl_cell.specs.declared.operator.ScalarOp.TheVariants as op
use Rattle.vtl_decimal.specs.Settings.{Settings}
use Rattle.vtl_tree.specs.Environment.{DataSet}
use Rattle.vtl_tree.specs.Value.{called}
use Rattle.vtl_meaning.specs.Aggregates.{Made}
use Rattle.vtl_timing.specs.Times.{by_measure, flow_value, stock_value}
use Rattle.vtl_times.specs.declared.along.Along.{Along}
use Rattle.vtl_times.specs.declared.along.Along.TheVariants as along

-- the value of a measure, from its cell and what is made along the series at its point
abbrev pub made_by : Along → Settings → Kind → Cell → Outcome Cell → Outcome Cell
made_by along.Totals p kind own total = if is_null own then Ok c.Null else total
made_by along.Previous p kind own before = after before (λ v. called p kind (Ok own ∷ Ok v ∷ []) op.Subtract)

-- what makes the columns
abbrev pub flow_by : Along → Settings → DataSet → Made
flow_by along.Totals p d = by_measure (stock_value p d) d.structure
flow_by along.Previous p d = by_measure (flow_value p d) d.structure
