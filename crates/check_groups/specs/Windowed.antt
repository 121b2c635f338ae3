-- Analytic calls: of the measures of a data set, as a target of `calc`, and where they may not stand.
use Rattle.std.specs.Prelude.{ℕ, ◌==◌, Bool, true, false, not, ◌&&◌, List, [], ◌∷◌, length, Option, Some, None, Result, Ok, Err, cond}
use Rattle.std.specs.Option.{is_none, is_some}
use Rattle.vtl_decimal.specs.Settings.{Settings}
use Rattle.vtl_cell.specs.declared.cell.Cell.{Cell}
use Rattle.vtl_cell.specs.declared.cell.Cell.TheVariants as c
use Rattle.vtl_cell.specs.declared.kind.Kind.{Kind}
use Rattle.vtl_cell.specs.declared.kind.Kind.TheVariants as k
use Rattle.vtl_syntax.specs.Trees as tree
use Rattle.vtl_syntax.specs.Trees.{Exp, MaybeExp}
use Rattle.vtl_syntax.specs.declared.parts.Literal.{Literal}
use Rattle.vtl_syntax.specs.declared.parts.OverPart.{OverPart}
use Rattle.vtl_syntax.specs.declared.word_groups.AggregateName.{AggregateName}
use Rattle.vtl_syntax.specs.declared.word_groups.AggregateName.TheVariants as aggregate
use Rattle.vtl_syntax.specs.declared.word_groups.ShiftName.{ShiftName}
use Rattle.vtl_syntax.specs.declared.word_groups.ShiftName.TheVariants as shift
use Rattle.vtl_syntax.specs.declared.word_groups.ValueWindowName.{ValueWindowName}
use Rattle.vtl_syntax.specs.declared.word_groups.ValueWindowName.TheVariants as window
use Rattle.vtl_tree.specs.declared.structure.Component.{Component}
use Rattle.vtl_tree.specs.declared.structure.Structure.{Structure}
use Rattle.vtl_tree.specs.CompExp.{CompExp}
use Rattle.vtl_tree.specs.Trees as nodes
use Rattle.vtl_tree.specs.Trees.{NodeTree, ValueTree}
use Rattle.vtl_tree.specs.declared.calls.AnalyticOp.{AnalyticOp}
use Rattle.vtl_tree.specs.declared.calls.AnalyticOp.TheVariants as op
use Rattle.vtl_tree.specs.declared.calls.Window.{Window}
use Rattle.vtl_lists.specs.Results.{◌>>=◌}
use Rattle.check_faults.specs.Rules.{ruled}
use Rattle.check_faults.specs.declared.rules.Rule.{Rule}
use Rattle.check_faults.specs.declared.rules.Rule.TheVariants as rule
use Rattle.vtl_tree.specs.Measures.{Gives}
use Rattle.check_shapes.specs.Measures.{measured_form}
use Rattle.vtl_tree.specs.declared.choices.Choice.TheVariants as choice
use Rattle.vtl_tree.specs.declared.measures.Outcome.TheVariants as outcome
use Rattle.vtl_tree.specs.Kinds.{exp_kind}
use Rattle.check_values.specs.Literals.{literal_cell, literal_kind, met_beside, valued}
use Rattle.check_values.specs.Windows.{frame_alone, points_typed, window_typed}
use Rattle.check_operators.specs.Places.{columns_at, columns_in}
use Rattle.check_operators.specs.Typed.{TypedTree, value, dataset, beside_kinds, components_in, made_of}
use Rattle.check_operators.specs.declared.places.Place.{Place}
use Rattle.check_operators.specs.declared.places.Place.TheVariants as place
use Rattle.check_groups.specs.Aggregates.{aggregate_kind, operand_name}
use Rattle.vtl_cell.specs.AggregateKinds.{number_of}
use Rattle.check_groups.specs.declared.calls.Call.{Call}
use Rattle.check_groups.specs.declared.calls.Needed.{Needed}
use Rattle.check_groups.specs.declared.calls.Needed.TheVariants as needed

-- ---- the calls: their operator, the kinds that they take, and what they ask of a window
-- the analytic operator that an aggregate is; a median is none
abbrev pub of_aggregate : AggregateName → Option AnalyticOp
of_aggregate aggregate.Sum = Some op.Sum
of_aggregate aggregate.Avg = Some op.Avg
of_aggregate aggregate.Count = Some op.Count
of_aggregate aggregate.Min = Some op.Min
of_aggregate aggregate.Max = Some op.Max
of_aggregate aggregate.Median = None

abbrev pub of_window : ValueWindowName → AnalyticOp
of_window window.FirstValue = op.FirstValue
of_window window.LastValue = op.LastValue
of_window window.RatioToReport = op.RatioToReport

abbrev pub of_shift : ShiftName → ℕ → Cell → AnalyticOp
of_shift shift.Lag n cell = op.Lag n cell
of_shift shift.Lead n cell = op.Lead n cell

abbrev pub window_needed : ValueWindowName → Needed
window_needed window.FirstValue = needed.Nothing
window_needed window.LastValue = needed.Nothing
window_needed window.RatioToReport = needed.Whole

-- the kind that a call gives of values of a kind
abbrev pub window_kind : ValueWindowName → Kind → Option Kind
window_kind window.FirstValue kind = Some kind
window_kind window.LastValue kind = Some kind
window_kind window.RatioToReport kind = number_of kind

-- the kind that an analytic call gives of values of a kind; the default of `lag` and `lead` is a part of its own
abbrev pub over_kind : Exp → Kind → Option Kind
over_kind (tree.aggregate_over f e o) kind = aggregate_kind f kind
over_kind (tree.value_window f e o) kind = window_kind f kind
over_kind (tree.shift f e n l o) kind = Some kind
over_kind e kind = Some k.Int

-- the default of `lag` and `lead`: null, or a literal of all kinds that the operand's values have, with a value
abbrev pub default_typed : Settings → List Kind → Option Literal → Result Cell Rule
default_typed p kinds None = Ok c.Null
default_typed p kinds (Some l) = met_beside kinds (literal_kind l) >>= λ u. valued (literal_cell p l)

unfoldable pub shift_call : Settings → ShiftName → List ℕ → Option Literal → List Kind → Result Call Rule
shift_call p f n l kinds = points_typed p n >>= λ points. default_typed p kinds l >>= λ cell. Ok (record { op = Some (of_shift f points cell); needed = needed.Ranked })

-- the parts of a call between its operand, whose values have these kinds, and its window
abbrev pub call_typed : Settings → Exp → List Kind → Result Call Rule
call_typed p (tree.aggregate_over f e o) kinds = Ok (record { op = of_aggregate f; needed = needed.Nothing })
call_typed p (tree.value_window f e o) kinds = Ok (record { op = Some (of_window f); needed = window_needed f })
call_typed p (tree.shift f e n l o) kinds = shift_call p f n l kinds
call_typed p e kinds = Ok (record { op = Some op.Rank; needed = needed.Ranked })

-- the window of an analytic call
abbrev pub no_window : OverPart
no_window = record { partition = None; order = None; points = None }

abbrev pub over_of : Exp → OverPart
over_of (tree.aggregate_over f e o) = o
over_of (tree.value_window f e o) = o
over_of (tree.shift f e n l o) = o
over_of (tree.rank o) = o
over_of e = no_window

abbrev pub is_ordered : Window → Bool
is_ordered w = not (length w.order == 0)

abbrev pub is_unframed : Window → Bool
is_unframed w = is_none w.frame

-- `lag`, `lead` and `rank` have an order and no frame, `ratio_to_report` neither
abbrev pub suits : Needed → Window → Bool
suits needed.Nothing w = true
suits needed.Ranked w = is_ordered w && is_unframed w
suits needed.Whole w = not (is_ordered w) && is_unframed w

-- ---- of each measure of a data set
abbrev pub of_measure : Exp → Gives
of_measure e a b = over_kind e a

-- a median, a count and a rank are no operators on data sets
abbrev pub is_misplaced : Option AnalyticOp → Bool
is_misplaced (Some op.Count) = true
is_misplaced (Some op.Rank) = true
is_misplaced (Some o) = false
is_misplaced None = true

abbrev pub or_count : Option AnalyticOp → AnalyticOp
or_count (Some o) = o
or_count None = op.Count

-- the structure that a call gives of measures whose kinds it takes
abbrev pub given_structure : Exp → List Component → Result Structure Rule
given_structure e xs = measured_form outcome.All (of_measure e) true choice.Except [] xs

-- the same with a window that suits it
unfoldable pub over_structure : Exp → Call → Window → List Component → Result Structure Rule
over_structure e call w xs =
    given_structure e xs
    >>= λ s. ruled ((rule.AnalyticMisuse, is_misplaced call.op) ∷ (rule.AnalyticMisuse, not (suits call.needed w)) ∷ []) s

unfoldable pub over_node : Exp → Call → Window → NodeTree → Result TypedTree Rule
over_node e call w a = over_structure e call w (components_in a) >>= made_of (nodes.analytic_of a (nodes.of_measures (or_count call.op) w))

-- ---- of a value
-- whether the operand is missing or of a kind that does not fit
abbrev pub is_rank : Exp → Bool
is_rank (tree.rank o) = true
is_rank e = false

abbrev pub is_unfit_over : Exp → Option Kind → Bool
is_unfit_over e None = not (is_rank e)
is_unfit_over e (Some kind) = not (is_some (over_kind e kind))

abbrev pub elsewhere_rule : Place → Option Kind → Rule
elsewhere_rule place.Outside (Some kind) = rule.DatasetOrValue
elsewhere_rule p kind = rule.AnalyticMisuse

-- the rule of an analytic call that is no whole target of `calc`: its operand does not fit; outside, a value stands where a data
-- set is needed; or no such call may stand there
abbrev pub misuse_rule : Place → Exp → Option Kind → Rule
misuse_rule p e kind = cond (is_unfit_over e kind) rule.WrongKind (elsewhere_rule p kind)

-- ---- behind its operand
abbrev pub kinds_beside : Option TypedTree → List Kind
kinds_beside None = []
kinds_beside (Some x) = beside_kinds x

-- the components that a window speaks of: those of the data set, or of the place
abbrev pub over_columns : Place → Option TypedTree → List Component
over_columns p (Some (dataset n)) = columns_in n
over_columns p x = columns_at p

-- the window of a call of no data set: where there is no place with components, its names stand for nothing
abbrev pub window_at : Settings → Place → OverPart → Result Window Rule
window_at p place.Outside o = frame_alone p o
window_at p (place.Inside i) o = window_typed p i.components o

abbrev pub over_window : Settings → Place → Option TypedTree → OverPart → Result Window Rule
over_window p at None o = window_at p at o
over_window p at (Some (value v)) o = window_at p at o
over_window p at (Some (dataset n)) o = window_typed p (columns_in n) o

-- of a data set: in a component expression a value is needed, and `DatasetOrValue` is less than what the call asks of its window
abbrev pub over_dataset : Place → Exp → NodeTree → Call → Window → Result TypedTree Rule
over_dataset place.Outside e n call w = over_node e call w n
over_dataset (place.Inside i) e n call w = given_structure e (components_in n) >>= λ s. Err rule.DatasetOrValue

abbrev pub over_form : Place → Exp → Option TypedTree → Call → Window → Result TypedTree Rule
over_form p e (Some (dataset n)) call w = over_dataset p e n call w
over_form p e (Some (value v)) call w = Err (misuse_rule p e (Some (exp_kind v)))
over_form p e None call w = Err (misuse_rule p e None)

-- the other parts of a call, behind its operand, and its window
unfoldable pub over_parts : Settings → Place → Exp → Option TypedTree → Result (Call × Window) Rule
over_parts p at e x = call_typed p e (kinds_beside x) >>= λ call. over_window p at x (over_of e) >>= λ w. Ok (call, w)

-- an analytic call that is no whole target, behind its operand: the other parts, the window, and then the call
unfoldable pub over_typed : Settings → Place → Exp → Option TypedTree → Result TypedTree Rule
over_typed p at e x = over_parts p at e x >>= λ parts. over_form at e x parts.0 parts.1

-- ---- as a target of `calc`
-- the operand, which is a component and nothing else
abbrev pub operand_exp : Exp → MaybeExp
operand_exp (tree.aggregate_over f e o) = e
operand_exp (tree.value_window f e o) = tree.some_exp e
operand_exp (tree.shift f e n l o) = tree.some_exp e
operand_exp e = tree.no_exp

abbrev pub argument : Exp → CompExp → Option (List ℕ)
argument e v = operand_name (operand_exp e) v

abbrev pub call_tree : AnalyticOp → Option (List ℕ) → Window → ValueTree
call_tree o component w = nodes.analytic (record { op = o; component = component; window = w })

-- a call of a component: the window suits it; other operands, and a median, break `AnalyticMisuse`
abbrev pub call_of : Call → Option (List ℕ) → Window → Option AnalyticOp → Result ValueTree Rule
call_of call (Some name) w (Some o) = ruled ((rule.AnalyticMisuse, not (suits call.needed w)) ∷ []) (call_tree o (Some name) w)
call_of call named w o = Err rule.AnalyticMisuse

-- behind an operand that fits
abbrev pub value_call : Exp → CompExp → Call → Window → Result ValueTree Rule
value_call e v call w = ruled ((rule.WrongKind, is_unfit_over e (Some (exp_kind v))) ∷ []) (tt {0}) >>= λ u. call_of call (argument e v) w call.op

abbrev pub rank_call : Call → Window → Result ValueTree Rule
rank_call call w = ruled ((rule.AnalyticMisuse, not (suits call.needed w)) ∷ []) (call_tree op.Rank None w)

abbrev pub target_form : Exp → Option TypedTree → Call → Window → Result ValueTree Rule
target_form e (Some (dataset n)) call w = given_structure e (components_in n) >>= λ s. Err rule.DatasetOrValue
target_form e (Some (value v)) call w = value_call e v call w
target_form e None call w = cond (is_rank e) (rank_call call w) (Err rule.WrongKind)

unfoldable pub target_typed : Settings → Place → Exp → Option TypedTree → Result ValueTree Rule
target_typed p at e x = over_parts p at e x >>= λ parts. target_form e x parts.0 parts.1
