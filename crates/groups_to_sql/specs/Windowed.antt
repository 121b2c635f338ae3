-- The query of analytic operators: a window for each call.
use Rattle.std.specs.Prelude.{Bool, true, false, not, ◌||◌, cond, List, [], ◌∷◌, ◌++◌, filter, map, Option, Some, None, is_some}
use Rattle.std.specs.Fmt.{decimal}
use Rattle.std.specs.Option.{option_map_or}
use Rattle.vtl_decimal.specs.Settings.{Settings}
use Rattle.vtl_cell.specs.declared.cell.Cell.{Cell}
use Rattle.vtl_cell.specs.declared.cell.Cell.TheVariants as c
use Rattle.vtl_cell.specs.declared.operator.AggKind.TheVariants as agg
use Rattle.vtl_tree.specs.Structure.{columns_of}
use Rattle.vtl_tree.specs.declared.structure.Component.{Component}
use Rattle.vtl_tree.specs.declared.structure.Structure.{Structure}
use Rattle.vtl_tree.specs.Names.{is_among}
use Rattle.vtl_meaning.specs.Analytics.{value_for}
use Rattle.vtl_tree.specs.Columns.{identifiers_of}
use Rattle.expressions_to_sql.specs.Constants.{literal_to_sql}
use Rattle.vtl_meaning.specs.Made.{is_ordered}
use Rattle.vtl_meaning.specs.Windows.{frame_in}
use Rattle.expressions_to_sql.specs.ToSql.{column_of, group_columns, to_sql}
use Rattle.vtl_tree.specs.Trees as nodes
use Rattle.vtl_tree.specs.Trees.{AnalyticTree, ValueTree}
use Rattle.vtl_tree.specs.declared.calls.AnalyticCall.{AnalyticCall}
use Rattle.vtl_tree.specs.declared.calls.AnalyticOp.{AnalyticOp}
use Rattle.vtl_tree.specs.declared.calls.AnalyticOp.TheVariants as op
use Rattle.vtl_tree.specs.declared.calls.Bound as points
use Rattle.vtl_tree.specs.declared.calls.Bound.TheVariants as point
use Rattle.vtl_tree.specs.declared.calls.Frame as frames
use Rattle.vtl_tree.specs.declared.calls.OrderKey.{OrderKey}
use Rattle.vtl_tree.specs.declared.calls.Window as windows
use Rattle.sql_tree.specs.Trees.{Text, ItemTree, QueryTree, expression, window}
use Rattle.sql_tree.specs.Trees as sql
use Rattle.sql_tree.specs.declared.parts.Column.{Column}
use Rattle.sql_tree.specs.declared.parts.Literal.{Literal}
use Rattle.sql_tree.specs.declared.windows.Bound.{Bound}
use Rattle.sql_tree.specs.declared.windows.Bound.TheVariants as bound
use Rattle.sql_tree.specs.declared.windows.Frame.{Frame}
use Rattle.sql_tree.specs.declared.windows.Over.{Over}
use Rattle.sql_tree.specs.declared.windows.Window.{Window}
use Rattle.sql_tree.specs.declared.windows.WindowCall.{WindowCall}
use Rattle.sql_tree.specs.declared.windows.WindowCall.TheVariants as call
use Rattle.sql_tree.specs.declared.windows.WindowKey.{WindowKey}
use Rattle.sql_tree.specs.declared.word_groups.Direction.{Direction}
use Rattle.sql_tree.specs.declared.word_groups.Direction.TheVariants as direction
use Rattle.sql_tree.specs.declared.word_groups.ShiftFunction.TheVariants as shift
use Rattle.sql_tree.specs.declared.word_groups.Side.TheVariants as side
use Rattle.sql_tree.specs.declared.word_groups.ValueFunction.TheVariants as value
use Rattle.selects_to_sql.specs.Queries.{first_alias, of_one, select_as, source_as}

-- ---- orders

abbrev pub direction_of : (falling : Bool) → Option Direction
direction_of true = Some direction.Descending
direction_of false = None

abbrev pub key_to_sql : OrderKey → WindowKey
key_to_sql x = record { column = column_of first_alias x.component; direction = direction_of x.falling }

-- Whether the order of a partition is seen: `rank` looks at the listed components alone, `ratio_to_report` at the whole partition, and so does
-- an aggregate over a window without an order and without a frame.
abbrev pub sees_order : AnalyticOp → windows.Window → Bool
sees_order op.FirstValue w = true
sees_order op.LastValue w = true
sees_order (op.Lag n default) w = true
sees_order (op.Lead n default) w = true
sees_order op.Rank w = false
sees_order op.RatioToReport w = false
sees_order o w = is_ordered w || is_some w.frame

abbrev pub key_names : List OrderKey → List Text
key_names ks = map (λ k. k.component) ks

-- a component that the partition or the order holds already
abbrev pub is_listed : windows.Window → Component → Bool
is_listed w x = is_among x.name w.partition || is_among x.name (key_names w.order)

abbrev pub rising_key : Component → WindowKey
rising_key x = record { column = column_of first_alias x.name; direction = None }

-- The listed components, and where the order is seen the identifiers that are not listed yet, so that it leaves no two rows at one place.
abbrev pub order_to_sql : Structure → AnalyticOp → windows.Window → List WindowKey
order_to_sql a o w = map key_to_sql w.order ++ cond (sees_order o w) (map rising_key (filter (λ x. not (is_listed w x)) (identifiers_of a))) []

-- ---- frames

abbrev pub bound_to_sql : points.Bound → Bound
bound_to_sql point.UnboundedPreceding = bound.Unbounded side.Preceding
bound_to_sql (point.Preceding n) = bound.Rows (decimal n) side.Preceding
bound_to_sql point.Current = bound.CurrentRow
bound_to_sql (point.Following n) = bound.Rows (decimal n) side.Following
bound_to_sql point.UnboundedFollowing = bound.Unbounded side.Following

abbrev pub frame_to_sql : frames.Frame → Frame
frame_to_sql f = record { first = bound_to_sql f.start; last = bound_to_sql f.end }

-- aggregates, `first_value` and `last_value` have a frame, that of VTL where none is written
abbrev pub framed_to_sql : AnalyticOp → windows.Window → Option Frame
framed_to_sql (op.Lag n default) w = None
framed_to_sql (op.Lead n default) w = None
framed_to_sql op.Rank w = None
framed_to_sql op.RatioToReport w = None
framed_to_sql o w = Some (frame_to_sql (frame_in w))

-- ---- calls

-- a null default has no literal: the text says NULL of itself
abbrev pub default_to_sql : Settings → Cell → Option Literal
default_to_sql p c.Null = None
default_to_sql p v = Some (literal_to_sql p v)

abbrev pub call_to_sql : Settings → AnalyticOp → Column → WindowCall
call_to_sql p op.Sum x = call.Aggregate agg.Sum x
call_to_sql p op.Avg x = call.Aggregate agg.Avg x
call_to_sql p op.Count x = call.Aggregate agg.Count x
call_to_sql p op.Min x = call.Aggregate agg.Min x
call_to_sql p op.Max x = call.Aggregate agg.Max x
call_to_sql p op.FirstValue x = call.Value value.FirstValue x
call_to_sql p op.LastValue x = call.Value value.LastValue x
call_to_sql p op.RatioToReport x = call.Value value.RatioToReport x
call_to_sql p (op.Lag n default) x = call.Shift shift.Lag x (decimal n) (default_to_sql p default)
call_to_sql p (op.Lead n default) x = call.Shift shift.Lead x (decimal n) (default_to_sql p default)
call_to_sql p op.Rank x = call.Rank

-- the column of a call; `rank` has none
abbrev pub argument_of : Option Text → Column
argument_of component = column_of first_alias (option_map_or (λ name. name) component [])

abbrev pub over_to_sql : Structure → AnalyticOp → windows.Window → Over
over_to_sql a o w = record { partition = group_columns first_alias w.partition; order = order_to_sql a o w; frame = framed_to_sql o w }

abbrev pub window_to_sql : Settings → Structure → AnalyticCall → Window
window_to_sql p a x = record { call = call_to_sql p x.op (argument_of x.component); over = over_to_sql a x.op x.window }

-- ---- items

abbrev pub made_to_sql : Settings → Structure → ValueTree → sql.ValueTree
made_to_sql p a (nodes.scalar e) = expression (to_sql p of_one e)
made_to_sql p a (nodes.analytic x) = window (window_to_sql p a x)

-- what makes a column, or the column as it was
abbrev pub analytic_item : Settings → AnalyticTree → Structure → Component → ItemTree
analytic_item p spec a y = record { value = option_map_or (made_to_sql p a) (value_for spec y) (expression (sql.column (column_of first_alias y.name))); name = y.name }

abbrev pub analytic_query : Settings → AnalyticTree → (a s : Structure) → (table : Text) → QueryTree
analytic_query p spec a s table = select_as (map (analytic_item p spec a) (columns_of s)) (source_as first_alias table) [] None ∷ []
