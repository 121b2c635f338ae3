-- What an analytic operator gives of a data set: `sum(ds over (..))` and the like on all measures, and a clause `calc` in which a call stands.
use Rattle.std.specs.Prelude.{ℕ, List, map, find, Option, Some, None, option_map, Ok, if◌then◌else◌}
use Rattle.std.specs.Option.{option_map_or}
use Rattle.vtl_cell.specs.Conversion.{as_kind}
use Rattle.vtl_cell.specs.Outcome.{Outcome, after, faults_by, unless}
use Rattle.vtl_cell.specs.Row.{Row, column_of}
use Rattle.vtl_decimal.specs.Settings.{Settings}
use Rattle.vtl_cell.specs.declared.cell.Cell.{Cell}
use Rattle.vtl_cell.specs.declared.kind.Kind.{Kind}
use Rattle.vtl_tree.specs.Environment.{DataSet}
use Rattle.vtl_tree.specs.Structure.{columns_of, same_name}
use Rattle.vtl_tree.specs.Value.{value}
use Rattle.vtl_tree.specs.declared.structure.Component.{Component}
use Rattle.vtl_tree.specs.declared.structure.Structure.{Structure}
use Rattle.vtl_tree.specs.Trees as nodes
use Rattle.vtl_tree.specs.Trees.{AnalyticTree, ItemTree, ValueTree}
use Rattle.vtl_tree.specs.declared.calls.AnalyticOp.{AnalyticOp}
use Rattle.vtl_tree.specs.declared.calls.Window.{Window}
use Rattle.vtl_tree.specs.Columns.{place_of}
use Rattle.vtl_tree.specs.Measures.{is_measure}
use Rattle.vtl_meaning.specs.Aggregates.{Made, group_fault as point_fault}
use Rattle.vtl_meaning.specs.Points.{cell_or_null}
use Rattle.vtl_meaning.specs.Windows.{call_value}

-- ---- the values that are made

abbrev pub item_named : List ItemTree → List ℕ → Option ItemTree
item_named items name = find (λ i. same_name i.target name) items

-- the call on a measure on its own
abbrev pub measure_call : AnalyticOp → Window → List ℕ → ValueTree
measure_call o w name = nodes.analytic (record { op = o; component = Some name; window = w })

-- what makes a column: the call on the measure of its name, or the value of the target of its name; none where the column stays
abbrev pub value_for : AnalyticTree → Component → Option ValueTree
value_for (nodes.of_measures o w) y = if is_measure y then Some (measure_call o w y.name) else None
value_for (nodes.of_items items) y = option_map (λ i. i.value) (item_named items y.name)

-- its value at a point; that of a call as a value of the column's kind
abbrev pub tree_value : Settings → DataSet → Kind → ValueTree → Row → Outcome Cell
tree_value p d kind (nodes.scalar e) r = value p e r
tree_value p d kind (nodes.analytic call) r = after (call_value p d call r) (as_kind p kind)

-- the value in a column at a point, or the cell as it was; all values see the points of the operand
abbrev pub made_of : Settings → AnalyticTree → DataSet → Made
made_of p spec d y r = option_map_or (λ v. tree_value p d y.kind v r) (value_for spec y) (Ok (column_of (place_of y.name (columns_of d.structure)) r))

-- ---- data sets

abbrev pub point_of : Made → List Component → Row → Row
point_of made ys r = map (λ y. cell_or_null (made y r)) ys

-- A point of these values for each point, unless one of the values has a fault; division by zero comes first wherever it is.
abbrev pub each_point : Made → List Component → List Row → Outcome (List Row)
each_point made ys points = unless (faults_by (point_fault made ys) points) (map (point_of made ys) points)

-- the points of the result, whose structure is `s`
abbrev pub analytic_of : Settings → AnalyticTree → DataSet → Structure → Outcome (List Row)
analytic_of p spec d s = each_point (made_of p spec d) (columns_of s) d.points
