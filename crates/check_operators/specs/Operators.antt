-- Operators on typed operands: on values, and on each measure of data sets.
use Rattle.std.specs.Prelude.{ℕ, Bool, true, false, not, ◌&&◌, ◌||◌, ◌==◌, List, [], ◌∷◌, ◌++◌, None, Result, Err, map, length}
use Rattle.std.specs.Option.{is_some}
use Rattle.vtl_cell.specs.ScalarKinds.{kinds_of}
use Rattle.vtl_cell.specs.declared.kind.Kind.{Kind}
use Rattle.vtl_cell.specs.declared.kind.Kind.TheVariants as k
use Rattle.vtl_cell.specs.declared.operator.ScalarOp.{ScalarOp}
use Rattle.vtl_cell.specs.declared.operator.ScalarOp.TheVariants as op
use Rattle.vtl_decimal.specs.Settings.{Settings}
use Rattle.vtl_syntax.specs.declared.parts.Literal.{Literal}
use Rattle.vtl_tree.specs.CompExp.{CompExp, const}
use Rattle.vtl_tree.specs.View.{comp_exp_of}
use Rattle.vtl_tree.specs.declared.structure.Component.{Component}
use Rattle.vtl_tree.specs.declared.structure.Structure.{Structure}
use Rattle.vtl_tree.specs.Trees.{NodeTree, structure_of, measures, pair, choose}
use Rattle.vtl_lists.specs.Results.{◌>>=◌}
use Rattle.check_faults.specs.Rules.{ruled}
use Rattle.check_faults.specs.declared.rules.Rule.{Rule}
use Rattle.check_faults.specs.declared.rules.Rule.TheVariants as rule
use Rattle.vtl_tree.specs.Measures.{Gives, any_unmet}
use Rattle.check_shapes.specs.Measures.{measured_form}
use Rattle.check_shapes.specs.Pairs as pairs
use Rattle.vtl_tree.specs.declared.choices.Choice.TheVariants as choice
use Rattle.vtl_tree.specs.declared.measures.Outcome.{Outcome}
use Rattle.vtl_tree.specs.declared.measures.Outcome.TheVariants as outcome
use Rattle.check_values.specs.Calls.{call_form}
use Rattle.vtl_tree.specs.Kinds.{exp_kind}
use Rattle.vtl_cell.specs.OperatorKinds.{counted_kinds, takes_literals}
use Rattle.check_values.specs.Literals.{set_typed}
use Rattle.check_operators.specs.Typed.{TypedTree, value, dataset, beside_kinds, boxed_tree, components_in, made_of, of_value}
use Rattle.check_operators.specs.declared.operands.Parted.{Parted}
use Rattle.check_operators.specs.declared.operator_kinds.GivenKinds.{GivenKinds}
use Rattle.check_operators.specs.declared.places.Place.{Place}
use Rattle.check_operators.specs.declared.places.Place.TheVariants as place

-- the operands of an operator: the data sets, and the values before and behind the first of them
pub record Operands : Type 0 where
  pub before : List CompExp
  pub datasets : List NodeTree
  pub after : List CompExp

abbrev pub no_operands : Operands
no_operands = record { before = []; datasets = []; after = [] }

-- a value stands before or behind the first data set
abbrev pub with_value : CompExp → List CompExp → List NodeTree → List CompExp → Operands
with_value e before [] after = record { before = before ++ e ∷ []; datasets = []; after = after }
with_value e before (n ∷ ns) after = record { before = before; datasets = n ∷ ns; after = after ++ e ∷ [] }

abbrev pub with_operand : Operands → TypedTree → Operands
with_operand o (value e) = with_value e o.before o.datasets o.after
with_operand o (dataset n) = record o { datasets = o.datasets ++ n ∷ [] }

-- more operands behind others
abbrev pub parted : Operands → List TypedTree → Operands
parted o [] = o
parted o (x ∷ xs) = parted (with_operand o x) xs

-- parted operands as the program holds them
abbrev pub parted_view : Parted → Operands
parted_view p = record { before = map comp_exp_of p.before.items; datasets = map boxed_tree p.datasets.items; after = map comp_exp_of p.after.items }

-- ---- which operators take data sets, and where
-- the operators between two operands, either of which may be a data set
abbrev pub is_binary : ScalarOp → Bool
is_binary op.Add = true
is_binary op.Subtract = true
is_binary op.Multiply = true
is_binary op.Divide = true
is_binary op.Modulo = true
is_binary op.Concat = true
is_binary op.Equal = true
is_binary op.NotEqual = true
is_binary op.Less = true
is_binary op.LessOrEqual = true
is_binary op.Greater = true
is_binary op.GreaterOrEqual = true
is_binary op.And = true
is_binary op.Or = true
is_binary op.Xor = true
is_binary o = false

-- `length`, `instr` and `if` take no data set beside values
abbrev pub takes_first : ScalarOp → Bool
takes_first op.Length = false
takes_first op.Position = false
takes_first op.If = false
takes_first o = true

-- whether an operator takes a data set behind so many values: the first operand may be one, and the second of two
abbrev pub takes_dataset : ScalarOp → ℕ → Bool
takes_dataset o n = (takes_first o && n == 0) || (is_binary o && n == 1)

abbrev pub is_choice : ScalarOp → Bool
is_choice op.If = true
is_choice o = false

-- comparisons and tests want one measure and give `bool_var`; the others give each measure
abbrev pub outcome_of : ScalarOp → Outcome
outcome_of op.Equal = outcome.Truth
outcome_of op.NotEqual = outcome.Truth
outcome_of op.Less = outcome.Truth
outcome_of op.LessOrEqual = outcome.Truth
outcome_of op.Greater = outcome.Truth
outcome_of op.GreaterOrEqual = outcome.Truth
outcome_of op.Between = outcome.Truth
outcome_of op.In = outcome.Truth
outcome_of op.NotIn = outcome.Truth
outcome_of op.IsNull = outcome.Truth
outcome_of o = outcome.Each

-- ---- on data sets
-- the kind that an operator gives of a measure between values of these kinds
abbrev pub between_kinds : ScalarOp → List Kind → List Kind → Gives
between_kinds o before after a b = kinds_of o (before ++ a ∷ after)

-- the same between values
abbrev pub between_values : ScalarOp → List CompExp → List CompExp → Gives
between_values o before after = between_kinds o (map exp_kind before) (map exp_kind after)

-- the same where the measure and the values that need not be literals meet the operator's row
abbrev pub by_operands : ScalarOp → List CompExp → List CompExp → Gives
by_operands o before after = between_kinds o (map exp_kind before) (counted_kinds o (map exp_kind after))

-- the same as the program holds it
abbrev pub given_by : GivenKinds → Gives
given_by given k.Null b = given.null
given_by given k.Bool b = given.boolean
given_by given k.Int b = given.int
given_by given k.Num b = given.num
given_by given k.Text b = given.text
given_by given k.Day b = given.day
given_by given k.Period b = given.period

-- of a measure and its namesake
abbrev pub of_two : ScalarOp → Gives
of_two o a b = kinds_of o (a ∷ b ∷ [])

-- The structure of measures that meet an operator's row but for literals, and with the literals.
abbrev pub structure_by : Outcome → (counted given : Gives) → (literals : Bool) → List Component → Result Structure Rule
structure_by o counted given literals xs =
    ruled ((rule.WrongKind, any_unmet counted None xs) ∷ (rule.WrongLiteral, any_unmet given None xs) ∷ []) (tt {0})
    >>= λ u. measured_form o given literals choice.Except [] xs

-- what an operator gives of measures between values
abbrev pub given_structure : ScalarOp → (literals : Bool) → List CompExp → List CompExp → List Component → Result Structure Rule
given_structure o literals before after xs = structure_by (outcome_of o) (by_operands o before after) (between_values o before after) literals xs

unfoldable pub on_measures : ScalarOp → (literals : Bool) → List CompExp → NodeTree → List CompExp → Result TypedTree Rule
on_measures o literals before a after =
    given_structure o literals before after (components_in a)
    >>= made_of (measures (record { op = o; before = before; after = after }) a)

unfoldable pub on_pair : ScalarOp → NodeTree → NodeTree → Result TypedTree Rule
on_pair o a b = pairs.pair_form (outcome_of o) (of_two o) (structure_of a) (structure_of b) >>= made_of (pair o a b)

unfoldable pub on_choice : NodeTree → NodeTree → NodeTree → Result TypedTree Rule
on_choice c a b = pairs.if_form (structure_of c) (structure_of a) (structure_of b) >>= made_of (choose c a b)

-- the rule of an operator that takes no data set where one stands, behind the number of operands and the literals
abbrev pub misplaced_rule : (number literals : Bool) → Rule
misplaced_rule false literals = rule.WrongKind
misplaced_rule true false = rule.WrongLiteral
misplaced_rule true true = rule.DatasetOrValue

abbrev pub if_placed : (fits literals : Bool) → Result TypedTree Rule → Result TypedTree Rule
if_placed true literals form = form
if_placed false literals form = Err (misplaced_rule true literals)

abbrev pub on_datasets : ScalarOp → (literals : Bool) → List CompExp → List NodeTree → List CompExp → Result TypedTree Rule
on_datasets o literals before (a ∷ []) after = if_placed (takes_dataset o (length before)) literals (on_measures o literals before a after)
on_datasets o literals [] (a ∷ b ∷ []) [] = if_placed (is_binary o) literals (on_pair o a b)
on_datasets o literals [] (c ∷ a ∷ b ∷ []) [] = if_placed (is_choice o) literals (on_choice c a b)
on_datasets o literals before datasets after = Err (misplaced_rule true literals)

-- ---- on values
abbrev pub on_values : ScalarOp → (literals : Bool) → List CompExp → Result TypedTree Rule
on_values o literals values = call_form o literals values >>= of_value

-- ---- on all operands
abbrev pub on_operands : Place → ScalarOp → (number literals : Bool) → List CompExp → List NodeTree → List CompExp → Result TypedTree Rule
on_operands p o number literals before [] after = on_values o literals before
on_operands (place.Inside i) o number literals before (n ∷ ns) after = Err (misplaced_rule number literals)
on_operands place.Outside o number literals before (n ∷ ns) after = ruled ((rule.WrongKind, not number) ∷ []) (tt {0}) >>= λ u. on_datasets o literals before (n ∷ ns) after

-- what `round`, `trunc` and `substr` give of their first operand, beside an integer literal
abbrev pub beside_literal : ScalarOp → Gives
beside_literal o = between_kinds o [] (k.Int ∷ [])

-- the first operand meets the row, where a data set stands behind it
abbrev pub meets_first : Gives → List CompExp → List NodeTree → Bool
meets_first f before [] = true
meets_first f (e ∷ es) (n ∷ ns) = is_some (f (exp_kind e) (exp_kind e))
meets_first f [] (a ∷ []) = true
meets_first f [] (a ∷ b ∷ ns) = not (any_unmet f None (components_in a))

-- kinds are asked also where a data set stands in the place of a literal
abbrev pub first_fits : ScalarOp → List CompExp → List NodeTree → Bool
first_fits o before datasets = not (takes_literals o) || meets_first (beside_literal o) before datasets

-- An operator on its operands. Whether their number is right, and whether those that have to be literals are, is told by the
-- one who sees how they are written.
abbrev pub on_parted : Place → ScalarOp → (number literals : Bool) → Operands → Result TypedTree Rule
on_parted p o number literals operands = on_operands p o (number && first_fits o operands.before operands.datasets) literals operands.before operands.datasets operands.after

unfoldable pub operator_form : Place → ScalarOp → (number literals : Bool) → List TypedTree → Result TypedTree Rule
operator_form p o number literals xs = on_parted p o number literals (parted no_operands xs)

-- ---- `in` and `not_in`
abbrev pub membership : (negated : Bool) → ScalarOp
membership true = op.NotIn
membership false = op.In

-- the members of a set, and then the operator
unfoldable pub set_form : Settings → Place → (negated : Bool) → List Literal → TypedTree → Result TypedTree Rule
set_form p at negated ls x = set_typed p (beside_kinds x) ls >>= λ cells. operator_form at (membership negated) true true (x ∷ map (λ c. value (const c)) cells)
