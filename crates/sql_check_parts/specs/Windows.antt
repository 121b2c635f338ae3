-- Windows: the columns that they name, the kinds that they take and give, and what they ask for.
use Rattle.std.specs.Prelude.{pos, Bool, true, false, not, ◌&&◌, ◌||◌, List, [], ◌∷◌, ◌++◌, Option, Some, None, is_some, if◌then◌else◌}
use Rattle.std.specs.List.{flat_map}
use Rattle.std.specs.Option.{is_none}
use Rattle.vtl_decimal.specs.Settings.{Settings}
use Rattle.vtl_cell.specs.ScalarKinds.{meets}
use Rattle.vtl_cell.specs.declared.kind.Kind.{Kind}
use Rattle.vtl_cell.specs.declared.kind.Kind.TheVariants as k
use Rattle.vtl_cell.specs.AggregateKinds.{aggregate_kind, number_of}
use Rattle.vtl_cell.specs.Literals.{integer_written, lies_between, longest_reach}
use Rattle.sql_tree.specs.Trees.{Text}
use Rattle.sql_tree.specs.declared.parts.Column.{Column}
use Rattle.sql_tree.specs.declared.parts.Literal.{Literal}
use Rattle.sql_tree.specs.declared.windows.Bound.{Bound}
use Rattle.sql_tree.specs.declared.windows.Bound.TheVariants as bound
use Rattle.sql_tree.specs.declared.windows.Frame.{Frame}
use Rattle.sql_tree.specs.declared.windows.Window.{Window}
use Rattle.sql_tree.specs.declared.windows.WindowCall.{WindowCall}
use Rattle.sql_tree.specs.declared.windows.WindowCall.TheVariants as call
use Rattle.sql_tree.specs.declared.windows.WindowKey.{WindowKey}
use Rattle.sql_tree.specs.declared.word_groups.ValueFunction.{ValueFunction}
use Rattle.sql_tree.specs.declared.word_groups.ValueFunction.TheVariants as value
use Rattle.sql_check_parts.specs.Literals.{has_no_value, literal_kind}
use Rattle.sql_check_parts.specs.Rules.{broken}
use Rattle.sql_check_parts.specs.Scopes.{Grouping, Scope, column_kind, found, is_empty, is_grouped_by, or_null}
use Rattle.sql_check_parts.specs.declared.rules.SqlRule.{SqlRule}
use Rattle.sql_check_parts.specs.declared.rules.SqlRule.TheVariants as rule

-- ---- columns

-- a column outside of a group's aggregates that is none of GROUP BY
abbrev pub is_ungrouped : Option Grouping → Column → Bool
is_ungrouped None c = false
is_ungrouped (Some group) c = not (is_grouped_by group c)

-- a column: it is known, and in a group one of GROUP BY
abbrev pub column_breaks : Scope → Option Grouping → Column → List SqlRule
column_breaks s g c = broken ((rule.UnknownColumn, is_none (found s c)) ∷ (rule.OutsideGroup, is_ungrouped g c) ∷ [])

-- ---- calls

-- the column that a call takes
abbrev pub argument : WindowCall → List Column
argument (call.Aggregate f c) = c ∷ []
argument (call.Value f c) = c ∷ []
argument (call.Shift f c rows default) = c ∷ []
argument call.Rank = []

abbrev pub key_breaks : Scope → Option Grouping → WindowKey → List SqlRule
key_breaks s g key = column_breaks s g key.column

-- the columns of a window
abbrev pub columns_break : Scope → Option Grouping → Window → List SqlRule
columns_break s g w = flat_map (column_breaks s g) (argument w.call) ++ flat_map (column_breaks s g) w.over.partition ++ flat_map (key_breaks s g) w.over.order

abbrev pub value_kind : ValueFunction → Kind → Option Kind
value_kind value.FirstValue kind = Some kind
value_kind value.LastValue kind = Some kind
value_kind value.RatioToReport kind = number_of kind

-- the default of LAG and LEAD is null or of the column's kind
abbrev pub shift_kind : Option Literal → Kind → Option Kind
shift_kind None kind = Some kind
shift_kind (Some l) kind = if meets kind (literal_kind l) then Some kind else None

-- the kind that a call gives, where the kind of its column fits
abbrev pub call_kind : Scope → WindowCall → Option Kind
call_kind s (call.Aggregate f c) = aggregate_kind f (column_kind s c)
call_kind s (call.Value f c) = value_kind f (column_kind s c)
call_kind s (call.Shift f c rows default) = shift_kind default (column_kind s c)
call_kind s call.Rank = Some k.Int

abbrev pub window_kind : Scope → Window → Kind
window_kind s w = or_null (call_kind s w.call)

-- ---- literals

-- a number of rows, as far as a frame or an offset may reach
abbrev pub is_row_count : Settings → Text → Bool
is_row_count p digits = lies_between (pos 0) longest_reach (integer_written p digits)

abbrev pub default_fits : Settings → Option Literal → Bool
default_fits p None = true
default_fits p (Some l) = not (has_no_value p l)

abbrev pub call_fits : Settings → WindowCall → Bool
call_fits p (call.Shift f c rows default) = is_row_count p rows && default_fits p default
call_fits p other = true

abbrev pub bound_fits : Settings → Bound → Bool
bound_fits p (bound.Rows count side) = is_row_count p count
bound_fits p other = true

abbrev pub frame_fits : Settings → Option Frame → Bool
frame_fits p None = true
frame_fits p (Some f) = bound_fits p f.first && bound_fits p f.last

abbrev pub literals_fit : Settings → Window → Bool
literals_fit p w = call_fits p w.call && frame_fits p w.over.frame

-- ---- frames and orders

-- the aggregates, FIRST_VALUE and LAST_VALUE have a frame, and no other call has one
abbrev pub is_framed : WindowCall → Bool
is_framed (call.Aggregate f c) = true
is_framed (call.Value value.FirstValue c) = true
is_framed (call.Value value.LastValue c) = true
is_framed other = false

abbrev pub frame_misplaced : WindowCall → Option Frame → Bool
frame_misplaced c None = is_framed c
frame_misplaced c (Some f) = not (is_framed c)

-- LAG, LEAD and RANK have an order, and RATIO_TO_REPORT has none
abbrev pub order_misplaced : WindowCall → List WindowKey → Bool
order_misplaced (call.Shift f c rows default) keys = is_empty keys
order_misplaced call.Rank keys = is_empty keys
order_misplaced (call.Value value.RatioToReport c) keys = not (is_empty keys)
order_misplaced other keys = false

abbrev pub is_misplaced : Option Grouping → Window → Bool
is_misplaced g w = is_some g || (frame_misplaced w.call w.over.frame || order_misplaced w.call w.over.order)

-- A window: its columns, the kind of the call's column, its literals, and whether it stands in no group, with the frame
-- and the order that its call asks for.
abbrev pub window_breaks : Settings → Scope → Option Grouping → Window → List SqlRule
window_breaks p s g w =
    columns_break s g w ++ broken ((rule.UnfitKind, is_none (call_kind s w.call)) ∷ (rule.UnfitLiteral, not (literals_fit p w)) ∷ (rule.MisplacedWindow, is_misplaced g w) ∷ [])
