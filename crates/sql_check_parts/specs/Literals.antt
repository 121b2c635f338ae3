-- The kinds and the values of literals, and the operands that have to be literals.
use Rattle.std.specs.Prelude.{ℤ, pos, Bool, true, false, ◌&&◌, Option, Some, None}
use Rattle.std.specs.Option.{is_none}
use Rattle.vtl_decimal.specs.Settings.{Settings}
use Rattle.vtl_cell.specs.declared.cell.Cell.{Cell}
use Rattle.vtl_cell.specs.declared.cell.Cell.TheVariants as cell
use Rattle.vtl_cell.specs.declared.kind.Kind.{Kind}
use Rattle.vtl_cell.specs.declared.kind.Kind.TheVariants as k
use Rattle.vtl_cell.specs.declared.operator.ScalarOp.{ScalarOp}
use Rattle.vtl_cell.specs.declared.operator.ScalarOp.TheVariants as op
use Rattle.vtl_cell.specs.Literals.{integer_cell, integer_written, largest_place, lies_between, longest_reach, number_cell, with_sign, written}
use Rattle.sql_tree.specs.Trees as tree
use Rattle.sql_tree.specs.Trees.{Exp, Exps}
use Rattle.sql_tree.specs.declared.parts.Numeral.{Numeral}
use Rattle.sql_tree.specs.declared.parts.Numeral.TheVariants as numeral
use Rattle.sql_tree.specs.declared.parts.Constant.{Constant}
use Rattle.sql_tree.specs.declared.parts.Constant.TheVariants as constant
use Rattle.sql_tree.specs.declared.parts.Literal.{Literal}
use Rattle.sql_tree.specs.declared.parts.Literal.TheVariants as literal

-- digits alone are an integer
abbrev pub numeral_kind : Numeral → Kind
numeral_kind (numeral.Int digits) = k.Int
numeral_kind (numeral.Dec digits) = k.Num

-- the value of a number, where it is in range; it is rounded once
abbrev pub numeral_value : Settings → Numeral → Option Cell
numeral_value p (numeral.Int digits) = integer_cell p digits
numeral_value p (numeral.Dec digits) = number_cell p digits

abbrev pub constant_kind : Constant → Kind
constant_kind (constant.Number n) = numeral_kind n
constant_kind (constant.Text text) = k.Text
constant_kind constant.True = k.Bool
constant_kind constant.False = k.Bool
constant_kind constant.Null = k.Null
constant_kind (constant.Date text) = k.Day
constant_kind (constant.Period text) = k.Period

-- the value of a constant, where it has one: a number in range, a day or a period that is one
abbrev pub constant_value : Settings → Constant → Option Cell
constant_value p (constant.Number n) = numeral_value p n
constant_value p (constant.Text text) = Some (cell.Text text)
constant_value p constant.True = Some (cell.Bool true)
constant_value p constant.False = Some (cell.Bool false)
constant_value p constant.Null = Some cell.Null
constant_value p (constant.Date text) = written p k.Day text
constant_value p (constant.Period text) = written p k.Period text

abbrev pub literal_kind : Literal → Kind
literal_kind (literal.Number negative n) = numeral_kind n
literal_kind (literal.Text text) = k.Text
literal_kind literal.True = k.Bool
literal_kind literal.False = k.Bool
literal_kind (literal.Date text) = k.Day
literal_kind (literal.Period text) = k.Period

abbrev pub literal_value : Settings → Literal → Option Cell
literal_value p (literal.Number negative n) = with_sign p negative (numeral_value p n)
literal_value p (literal.Text text) = Some (cell.Text text)
literal_value p literal.True = Some (cell.Bool true)
literal_value p literal.False = Some (cell.Bool false)
literal_value p (literal.Date text) = written p k.Day text
literal_value p (literal.Period text) = written p k.Period text

abbrev pub has_no_value : Settings → Literal → Bool
has_no_value p l = is_none (literal_value p l)

-- ---- operands that have to be literals

-- the integer that an expression is, where it is an integer without a sign
abbrev pub integer_in : Settings → Exp → Option ℤ
integer_in p (tree.constant (constant.Number (numeral.Int digits))) = integer_written p digits
integer_in p e = None

abbrev pub is_place : Settings → Exp → Bool
is_place p e = lies_between (pos 1) largest_place (integer_in p e)

abbrev pub is_size : Settings → Exp → Bool
is_size p e = lies_between (pos 0) largest_place (integer_in p e)

-- an integer of at most this size, before which one `-` may stand
abbrev pub is_signed : Settings → ℤ → Exp → Bool
is_signed p most (tree.unary op.Negate e) = lies_between (pos 0) most (integer_in p e)
is_signed p most e = lies_between (pos 0) most (integer_in p e)

abbrev pub are_digits : Settings → Exp → Bool
are_digits p e = is_signed p (pos 9) e

-- how far a period may be shifted
abbrev pub is_shift : Settings → Exp → Bool
is_shift p e = is_signed p longest_reach e

-- whether the second operand, if there is one, passes a test
abbrev pub second_passes : (Exp → Bool) → Exps → Bool
second_passes test (tree.exp a (tree.exp b es)) = test b
second_passes test es = true

abbrev pub third_passes : (Exp → Bool) → Exps → Bool
third_passes test (tree.exp a (tree.exp b (tree.exp c es))) = test c
third_passes test es = true

-- whether the operands of a function that have to be literals are literals in their intervals
abbrev pub literals_fit : Settings → ScalarOp → Exps → Bool
literals_fit p op.Round es = second_passes (are_digits p) es
literals_fit p op.Truncate es = second_passes (are_digits p) es
literals_fit p op.Substring es = second_passes (is_place p) es && third_passes (is_size p) es
literals_fit p op.PeriodShift es = second_passes (is_shift p) es
literals_fit p other es = true
