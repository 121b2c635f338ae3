-- The table of scalar operators: the value of each, or its fault.
use Rattle.std.specs.Prelude.{List, [], ◌∷◌, Ok}
use Rattle.std.specs.Ordering.{is_eq, is_ne, is_lt, is_le, is_gt, is_ge}
use Rattle.vtl_text.specs.Texts.{ltrim_of, rtrim_of, trim_of}
use Rattle.vtl_decimal.specs.Settings.{Settings}
use Rattle.vtl_cell.specs.Kinds.{is_null}
use Rattle.vtl_cell.specs.Logic.{not_of, and_of, or_of, xor_of}
use Rattle.vtl_cell.specs.Outcome.{Outcome, after}
use Rattle.vtl_cell.specs.ScalarArithmetic.{pair_of, identity_of, negation_of, absolute_of, sum_of, difference_of, product_of, quotient_of, remainder_of, whole_below, whole_above, rounded_of, truncated_of}
use Rattle.vtl_cell.specs.ScalarComparison.{compared, between_of, membership_of, truth}
use Rattle.vtl_cell.specs.ScalarPeriods.{places_in, shifted_of, frequency_of}
use Rattle.vtl_cell.specs.ScalarTexts.{on_text, joined_of, count_in, part_from, part_within, replaced_of, position_of, length_of}
use Rattle.vtl_cell.specs.ScalarChoice.{truth_in, on_truth, on_truths, value_or, chosen_of}
use Rattle.vtl_cell.specs.declared.cell.Cell.{Cell}
use Rattle.vtl_cell.specs.declared.cell.Cell.TheVariants as c
use Rattle.vtl_cell.specs.declared.operator.ScalarOp.{ScalarOp}
use Rattle.vtl_cell.specs.declared.operator.ScalarOp.TheVariants as op

-- The value is null where the operands do not meet the row: by their kinds, by their number, or by digits, a place, a
-- length or a shift outside its interval. So a null operand gives null before the operator looks at the others, as null / 0 does, but
-- in the rows of `and`, `or`, `isnull`, `nvl` and `if`.

-- the rows of one operand
abbrev pub unary_of : Settings → ScalarOp → Cell → Outcome Cell
unary_of p op.Identity a = Ok (identity_of a)
unary_of p op.Negate a = negation_of p a
unary_of p op.Absolute a = absolute_of p a
unary_of p op.Floor a = whole_below p a
unary_of p op.Ceil a = whole_above p a
unary_of p op.Trim a = Ok (on_text trim_of a)
unary_of p op.TrimLeft a = Ok (on_text ltrim_of a)
unary_of p op.TrimRight a = Ok (on_text rtrim_of a)
unary_of p op.Length a = length_of p a
unary_of p op.Not a = Ok (on_truth not_of (truth_in a))
unary_of p op.IsNull a = Ok (c.Bool (is_null a))
unary_of p op.PeriodFrequency a = Ok (frequency_of a)
unary_of p other a = Ok c.Null

-- the rows of two operands
abbrev pub binary_of : Settings → ScalarOp → Cell → Cell → Outcome Cell
binary_of p op.Add a b = after (pair_of p a b) (sum_of p)
binary_of p op.Subtract a b = after (pair_of p a b) (difference_of p)
binary_of p op.Multiply a b = after (pair_of p a b) (product_of p)
binary_of p op.Divide a b = after (pair_of p a b) (quotient_of p)
binary_of p op.Modulo a b = after (pair_of p a b) (remainder_of p)
binary_of p op.Round a d = rounded_of p a d
binary_of p op.Truncate a d = truncated_of p a d
binary_of p op.Concat a b = Ok (joined_of a b)
binary_of p op.Substring a i = Ok (part_from a (count_in 1 i))
binary_of p op.Replace a x = Ok (replaced_of a x (c.Text []))
binary_of p op.Position a x = position_of p a x
binary_of p op.Equal a b = Ok (truth (compared is_eq p a b))
binary_of p op.NotEqual a b = Ok (truth (compared is_ne p a b))
binary_of p op.Less a b = Ok (truth (compared is_lt p a b))
binary_of p op.LessOrEqual a b = Ok (truth (compared is_le p a b))
binary_of p op.Greater a b = Ok (truth (compared is_gt p a b))
binary_of p op.GreaterOrEqual a b = Ok (truth (compared is_ge p a b))
binary_of p op.And a b = Ok (on_truths and_of (truth_in a) (truth_in b))
binary_of p op.Or a b = Ok (on_truths or_of (truth_in a) (truth_in b))
binary_of p op.Xor a b = Ok (on_truths xor_of (truth_in a) (truth_in b))
binary_of p op.ValueOr a x = value_or p a x
binary_of p op.PeriodShift a n = shifted_of a (places_in n)
binary_of p other a b = Ok c.Null

-- the rows of three operands
abbrev pub ternary_of : Settings → ScalarOp → Cell → Cell → Cell → Outcome Cell
ternary_of p op.Substring a i l = Ok (part_within a (count_in 1 i) (count_in 0 l))
ternary_of p op.Replace a x y = Ok (replaced_of a x y)
ternary_of p op.Between a x y = Ok (truth (between_of p a x y))
ternary_of p op.If test a b = chosen_of p test a b
ternary_of p other a x y = Ok c.Null

abbrev pub by_number_of_operands : Settings → ScalarOp → List Cell → Outcome Cell
by_number_of_operands p o (a ∷ []) = unary_of p o a
by_number_of_operands p o (a ∷ b ∷ []) = binary_of p o a b
by_number_of_operands p o (a ∷ x ∷ y ∷ []) = ternary_of p o a x y
by_number_of_operands p o args = Ok c.Null

-- the value or the fault of an operator at its operands; `in` takes a value and then the members of the set
abbrev pub scalar_of : Settings → ScalarOp → List Cell → Outcome Cell
scalar_of p op.In args = Ok (truth (membership_of p args))
scalar_of p op.NotIn args = Ok (truth (not_of (membership_of p args)))
scalar_of p other args = by_number_of_operands p other args
