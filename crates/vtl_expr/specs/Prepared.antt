-- The expression that a prepared one stands for.
use Rattle.std.specs.Prelude.{◌≡◌, ℕ, Bool, true, false, Option, Some, None, Ok, List, map}
use Rattle.vtl_cell.specs.Outcome.{Outcome}
use Rattle.vtl_cell.specs.Logic.{not_of}
use Rattle.vtl_decimal.specs.Settings.{Settings}
use Rattle.vtl_cell.specs.declared.cell.Cell.{Cell}
use Rattle.vtl_cell.specs.declared.cell.Cell.TheVariants as c
use Rattle.vtl_cell.specs.declared.kind.Kind.TheVariants as k
use Rattle.vtl_cell.specs.declared.operator.ScalarOp.{ScalarOp}
use Rattle.vtl_cell.specs.declared.operator.ScalarOp.TheVariants as op
use Rattle.vtl_tree.specs.CompExp.{CompExp, CompExps, aggregate, column, const, call, comp_exp}
use Rattle.vtl_tree.specs.View.{comp_exps_of}
use Rattle.vtl_tree.specs.declared.expression.AggCall.{AggCall}
use Rattle.vtl_meaning.specs.GroupExpressions.{value_over, values_over}
use Rattle.vtl_expr.specs.declared.prepared.Prepared.{Prepared, fold-Prepared}
use Rattle.vtl_expr.specs.declared.prepared.Prepared.TheOpen.{Prepared-F}

-- whether `in` (true) or `not_in` is asked, where one of them is
abbrev pub membership_test : ScalarOp → Option Bool
membership_test op.In = Some true
membership_test op.NotIn = Some false
membership_test other = None

abbrev pub membership_op : Bool → ScalarOp
membership_op true = op.In
membership_op false = op.NotIn

-- the answer to the question, from whether the value is in the set
abbrev pub asked : Bool → Option Bool → Option Bool
asked true found = found
asked false found = not_of found

-- the members of a set as expressions
abbrev pub constants : List Cell → CompExps
constants vs = comp_exps_of (map const vs)

-- at a point an aggregate is null
abbrev pub no_aggregate : AggCall → Outcome Cell
no_aggregate a = Ok c.Null

-- one level, with each part already seen as its expression; no value depends on the kind of a column or an aggregate
abbrev pub prepared_step : Prepared-F CompExp → CompExp
prepared_step (Prepared-F.Column place name) = column place name k.Null
prepared_step (Prepared-F.Const v) = const v
prepared_step (Prepared-F.Aggregate a) = aggregate a k.Null
prepared_step (Prepared-F.Apply o kind args) = call o kind (comp_exps_of args.items)
prepared_step (Prepared-F.Membership is_in operand members) = call (membership_op is_in) k.Bool (comp_exp operand.value (constants members))

abbrev pub prepared_exp : Prepared → CompExp
prepared_exp = fold-Prepared CompExp prepared_step

-- the same value whatever columns and aggregates are: at each point, and over each group
abbrev pub SameValue : CompExp → CompExp → Type 0
SameValue e f = (p : Settings) (columns : ℕ → List ℕ → Cell) (aggregates : AggCall → Outcome Cell) → value_over p columns aggregates e ≡ value_over p columns aggregates f

abbrev pub SameValues : List CompExp → List CompExp → Type 0
SameValues es fs = (p : Settings) (columns : ℕ → List ℕ → Cell) (aggregates : AggCall → Outcome Cell) → values_over p columns aggregates (comp_exps_of es) ≡ values_over p columns aggregates (comp_exps_of fs)
