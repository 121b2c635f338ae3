-- Time operators: what they are given behind their operand, what they ask of it, and what they give.
use Rattle.std.specs.Prelude.{ℕ, ℤ, pos, neg_ℤ, Bool, true, false, not, [], ◌∷◌, Result, Ok, unwrap_or}
use Rattle.vtl_decimal.specs.Settings.{Settings}
use Rattle.vtl_syntax.specs.declared.parts.TimeCall.{TimeCall}
use Rattle.vtl_syntax.specs.declared.parts.TimeCall.TheVariants as call
use Rattle.vtl_syntax.specs.declared.word_groups.Filling.TheVariants as filling
use Rattle.vtl_tree.specs.Times.{flow_gives, has_time}
use Rattle.vtl_tree.specs.Trees.{NodeTree, structure_of, time}
use Rattle.vtl_tree.specs.declared.calls.TimeOp.{TimeOp}
use Rattle.vtl_tree.specs.declared.calls.TimeOp.TheVariants as op
use Rattle.vtl_tree.specs.declared.choices.Choice.TheVariants as choice
use Rattle.vtl_tree.specs.declared.measures.Outcome.TheVariants as outcome
use Rattle.vtl_tree.specs.declared.structure.Structure.{Structure}
use Rattle.vtl_lists.specs.Results.{◌>>=◌}
use Rattle.check_faults.specs.Rules.{ruled}
use Rattle.check_faults.specs.declared.rules.Rule.{Rule}
use Rattle.check_faults.specs.declared.rules.Rule.TheVariants as rule
use Rattle.check_shapes.specs.Measures.{measured_form}
use Rattle.check_values.specs.Windows.{points_typed}
use Rattle.check_operators.specs.Typed.{TypedTree, dataset_in, made_of}

-- ---- what is written behind the operand

-- a number of periods with its sign
abbrev pub signed : Bool → ℕ → ℤ
signed true n = neg_ℤ (pos n)
signed false n = pos n

-- the operator: a series is filled to the ends of all where nothing else is written
unfoldable pub operator_typed : Settings → TimeCall → Result TimeOp Rule
operator_typed p (call.Timeshift negative digits) = points_typed p digits >>= λ n. Ok (op.Shift (signed negative n))
operator_typed p (call.FillTimeSeries f) = Ok (op.Fill (unwrap_or f filling.All))
operator_typed p call.FlowToStock = Ok op.FlowToStock
operator_typed p call.StockToFlow = Ok op.StockToFlow

-- ---- the operand

-- identifiers and measures, of which there is one at least
abbrev pub flow_structure : Structure → Result Structure Rule
flow_structure s = measured_form outcome.Each flow_gives true choice.Except [] s.components

-- the result's structure, whatever the time
abbrev pub given_structure : TimeOp → Structure → Result Structure Rule
given_structure (op.Shift n) s = Ok s
given_structure (op.Fill f) s = Ok s
given_structure op.FlowToStock s = flow_structure s
given_structure op.StockToFlow s = flow_structure s

-- the operand has a time
abbrev pub timed : Structure → Structure → Result Structure Rule
timed a s = ruled ((rule.NoTime, not (has_time a)) ∷ []) s

unfoldable pub time_structure : TimeOp → Structure → Result Structure Rule
time_structure o a = given_structure o a >>= timed a

abbrev pub time_node : TimeOp → NodeTree → Result TypedTree Rule
time_node o a = time_structure o (structure_of a) >>= made_of (time a o)

-- a time operator behind its operand
unfoldable pub time_form : Settings → TimeCall → TypedTree → Result TypedTree Rule
time_form p c x = operator_typed p c >>= λ o. dataset_in x >>= time_node o
