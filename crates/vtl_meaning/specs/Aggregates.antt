-- What an aggregate operator gives of a data set: `sum(ds group by ..)` and the like on all measures, and the clause `aggr`.
use Rattle.std.specs.Prelude.{ℕ, Bool, true, List, ◌++◌, map, filter, find, Option, Some, None, option_map, Ok}
use Rattle.std.specs.Option.{option_map_or}
use Rattle.vtl_decimal.specs.declared.number.Fault.{Fault}
use Rattle.vtl_cell.specs.Outcome.{Outcome, fault_in, faults_by, join, unless}
use Rattle.vtl_cell.specs.Outcomes.{is_true}
use Rattle.vtl_cell.specs.Row.{Row}
use Rattle.vtl_decimal.specs.Settings.{Settings}
use Rattle.vtl_cell.specs.declared.cell.Cell.{Cell}
use Rattle.vtl_cell.specs.declared.cell.Cell.TheVariants as c
use Rattle.vtl_cell.specs.declared.operator.AggKind.{AggKind}
use Rattle.vtl_cell.specs.declared.operator.AggKind.TheVariants as agg
use Rattle.vtl_tree.specs.CompExp.{CompExp}
use Rattle.vtl_tree.specs.Environment.{DataSet}
use Rattle.vtl_tree.specs.Structure.{columns_of, same_name}
use Rattle.vtl_tree.specs.declared.expression.AggCall.{AggCall}
use Rattle.vtl_tree.specs.declared.structure.Component.{Component}
use Rattle.vtl_tree.specs.declared.structure.Structure.{Structure}
use Rattle.vtl_tree.specs.Trees.{AggTree}
use Rattle.vtl_tree.specs.declared.specifications.AggItems.{AggItems}
use Rattle.vtl_tree.specs.declared.specifications.AggItems.TheVariants as items
use Rattle.vtl_tree.specs.declared.specifications.AggTarget.{AggTarget}
use Rattle.vtl_tree.specs.Columns.{others_of}
use Rattle.vtl_meaning.specs.GroupExpressions.{aggregated, value_at_group}
use Rattle.vtl_meaning.specs.Groups.{keys_by, places_named, points_with}
use Rattle.vtl_meaning.specs.Points.{cell_or_null}

-- ---- the aggregates that are made

-- of a measure on its own; `count` of a data set is the number of points
abbrev pub measure_call : AggKind → List ℕ → AggCall
measure_call agg.Count name = record { kind = agg.Count; component = None }
measure_call f name = record { kind = f; component = Some name }

abbrev pub target_named : List AggTarget → List ℕ → Option AggTarget
target_named ts name = find (λ t. same_name t.target name) ts

-- the one that makes the column of this name: that of the measure of this name, or the target of this name
abbrev pub call_for : AggItems → List ℕ → Option AggCall
call_for (items.Measures f) name = Some (measure_call f name)
call_for (items.Targets ts) name = option_map (λ t. t.call) (target_named ts name)

-- the value in a column at a group of these points
abbrev pub made_value : Settings → List Component → AggItems → Component → (points : List Row) → Outcome Cell
made_value p xs i y points = option_map_or (λ a. aggregated p xs a.kind a.component points) (call_for i y.name) (Ok c.Null)

-- ---- groups with their values

-- the values that are asked at a key: of the condition, and in a column
abbrev pub Condition : Type 0
Condition = CompExp → Row → Outcome Cell

abbrev pub Made : Type 0
Made = Component → Row → Outcome Cell

-- `having` keeps the groups at which it is true; without one all are kept
abbrev pub is_kept : Condition → Option CompExp → Row → Bool
is_kept at None key = true
is_kept at (Some e) key = is_true (at e key)

abbrev pub condition_fault : Condition → Option CompExp → Row → Option Fault
condition_fault at None key = None
condition_fault at (Some e) key = fault_in (at e key)

-- the fault of the values of a group: division by zero where one of them has it, else out of range where one has it
abbrev pub group_fault : Made → List Component → Row → Option Fault
group_fault made ys key = faults_by (λ y. fault_in (made y key)) ys

-- the point of a group: its key, and a value in each other column
abbrev pub group_point : Made → List Component → Row → Row
group_point made ys key = key ++ map (λ y. cell_or_null (made y key)) ys

-- A point for each group that is kept, unless there is a fault. The condition is evaluated at each group, the values of columns at those that
-- are kept alone; division by zero comes first wherever it is.
abbrev pub each_group : Condition → Option CompExp → Made → List Component → List Row → Outcome (List Row)
each_group at having made ys keys =
    let kept = filter (is_kept at having) keys in
    unless (join (faults_by (condition_fault at having) keys) (faults_by (group_fault made ys) kept)) (map (group_point made ys) kept)

-- ---- data sets

-- the value of an expression at a key, and that in a column, where points of these columns are grouped
abbrev pub condition_of : Settings → AggTree → List Component → List Row → Condition
condition_of p spec xs points e key = value_at_group p spec.grouping xs e key (points_with (places_named spec.grouping xs) points key)

abbrev pub made_of : Settings → AggTree → List Component → List Row → Made
made_of p spec xs points y key = made_value p xs spec.items y (points_with (places_named spec.grouping xs) points key)

-- from points of the columns `xs`, points of the grouping identifiers and the columns `ys`
abbrev pub grouped_points : Settings → AggTree → (xs ys : List Component) → List Row → Outcome (List Row)
grouped_points p spec xs ys points =
    each_group (condition_of p spec xs points) spec.having (made_of p spec xs points) ys (keys_by (places_named spec.grouping xs) points)

-- the points of the result, whose structure is `s`
abbrev pub aggregate_of : Settings → AggTree → DataSet → Structure → Outcome (List Row)
aggregate_of p spec d s = grouped_points p spec (columns_of d.structure) (others_of s) d.points
