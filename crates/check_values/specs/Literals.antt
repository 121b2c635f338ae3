-- The values of literals, and their kinds.
use Rattle.std.specs.Prelude.{ℤ, pos, Bool, true, not, ◌&&◌, ◌||◌, List, [], ◌∷◌, ◌++◌, Option, Some, None, if◌then◌else◌, Result, Ok, Err}
use Rattle.std.specs.List.{list_all}
use Rattle.vtl_decimal.specs.Settings.{Settings}
use Rattle.vtl_cell.specs.ScalarKinds.{meets, shared_kind}
use Rattle.vtl_cell.specs.Literals.{integer_cell, integer_written, is_null_kind, largest_place, lies_between, number_cell, with_sign, written}
use Rattle.vtl_cell.specs.declared.cell.Cell.{Cell}
use Rattle.vtl_cell.specs.declared.cell.Cell.TheVariants as c
use Rattle.vtl_cell.specs.declared.kind.Kind.{Kind}
use Rattle.vtl_cell.specs.declared.kind.Kind.TheVariants as k
use Rattle.vtl_syntax.specs.Trees as tree
use Rattle.vtl_syntax.specs.Trees.{Exp, Exps}
use Rattle.vtl_syntax.specs.declared.parts.Constant.{Constant}
use Rattle.vtl_syntax.specs.declared.parts.Constant.TheVariants as constant
use Rattle.vtl_syntax.specs.declared.parts.Literal.{Literal}
use Rattle.vtl_syntax.specs.declared.parts.Literal.TheVariants as literal
use Rattle.vtl_syntax.specs.declared.parts.Numeral.{Numeral}
use Rattle.vtl_syntax.specs.declared.parts.Numeral.TheVariants as numeral
use Rattle.vtl_syntax.specs.declared.word_groups.CastKind.{CastKind}
use Rattle.vtl_syntax.specs.declared.word_groups.CastKind.TheVariants as cast
use Rattle.vtl_syntax.specs.declared.word_groups.FunctionName.{FunctionName}
use Rattle.vtl_syntax.specs.declared.word_groups.FunctionName.TheVariants as function
use Rattle.vtl_syntax.specs.declared.word_groups.UnaryOp.TheVariants as sign
use Rattle.vtl_tree.specs.CompExp.{CompExp, const}
use Rattle.vtl_lists.specs.Results.{◌>>=◌}
use Rattle.check_faults.specs.Rules.{ruled}
use Rattle.check_faults.specs.declared.rules.Rule.{Rule}
use Rattle.check_faults.specs.declared.rules.Rule.TheVariants as rule

-- the kind of a number: digits alone are an integer
abbrev pub numeral_kind : Numeral → Kind
numeral_kind (numeral.Integer digits) = k.Int
numeral_kind (numeral.Decimal digits) = k.Num

abbrev pub cast_kind : CastKind → Kind
cast_kind cast.Date = k.Day
cast_kind cast.TimePeriod = k.Period

-- the value of a number, of however many digits: rounded once, where it is in range
abbrev pub numeral_cell : Settings → Numeral → Option Cell
numeral_cell p (numeral.Integer digits) = integer_cell p digits
numeral_cell p (numeral.Decimal digits) = number_cell p digits

-- the value of a constant, where it has one: a number in range, a day or a period that is one
abbrev pub constant_cell : Settings → Constant → Option Cell
constant_cell p (constant.Number n) = numeral_cell p n
constant_cell p (constant.String text) = Some (c.Text text)
constant_cell p (constant.Boolean b) = Some (c.Bool b)
constant_cell p constant.Null = Some c.Null
constant_cell p (constant.Cast text kind) = written p (cast_kind kind) text

-- the value of a literal, where it has one
abbrev pub literal_cell : Settings → Literal → Option Cell
literal_cell p (literal.Number negative n) = with_sign p negative (numeral_cell p n)
literal_cell p (literal.String text) = Some (c.Text text)
literal_cell p (literal.Boolean b) = Some (c.Bool b)
literal_cell p (literal.Cast text kind) = written p (cast_kind kind) text

abbrev pub literal_kind : Literal → Kind
literal_kind (literal.Number negative n) = numeral_kind n
literal_kind (literal.String text) = k.Text
literal_kind (literal.Boolean b) = k.Bool
literal_kind (literal.Cast text kind) = cast_kind kind

-- a literal without a value breaks `WrongLiteral`
abbrev pub valued : Option Cell → Result Cell Rule
valued (Some cell) = Ok cell
valued None = Err rule.WrongLiteral

-- a constant as an expression
abbrev pub constant_typed : Settings → Constant → Result CompExp Rule
constant_typed p c = valued (constant_cell p c) >>= λ cell. Ok (const cell)

-- a literal stands for a value of this kind
abbrev pub kind_met : Kind → Kind → Result (Unit {0}) Rule
kind_met wanted given = ruled ((rule.WrongKind, not (meets wanted given)) ∷ []) (tt {0})

-- a literal may stand beside values of this kind: beside null any may
abbrev pub stands_beside : Kind → Kind → Bool
stands_beside given kind = is_null_kind kind || meets kind given

-- a literal beside an operand: of all kinds that the operand's values have
abbrev pub beside_all : List Kind → Kind → Bool
beside_all kinds given = list_all (stands_beside given) kinds

abbrev pub met_beside : List Kind → Kind → Result (Unit {0}) Rule
met_beside kinds given = ruled ((rule.WrongKind, not (beside_all kinds given)) ∷ []) (tt {0})

-- the kind that the members of a set share up to one that stands beside the operand
abbrev pub shared_beside : List Kind → (shared given : Kind) → Option Kind
shared_beside kinds shared given = if beside_all kinds given then shared_kind shared given else None

abbrev pub shared_or : Option Kind → Result Kind Rule
shared_or (Some kind) = Ok kind
shared_or None = Err rule.WrongKind

-- the members of a set in order, behind those that are done: each may stand beside the operand, shares a kind with those before
-- it, and has a value
abbrev pub members_typed : Settings → List Kind → (shared : Kind) → List Cell → List Literal → Result (List Cell) Rule
members_typed p kinds shared done [] = Ok done
members_typed p kinds shared done (l ∷ ls) =
    shared_or (shared_beside kinds shared (literal_kind l)) >>= λ kind. valued (literal_cell p l) >>= λ cell. members_typed p kinds kind (done ++ cell ∷ []) ls

-- the members of a set behind an operand whose values have these kinds
abbrev pub set_typed : Settings → List Kind → List Literal → Result (List Cell) Rule
set_typed p kinds ls = members_typed p kinds k.Null [] ls

-- ---- literal operands

-- the integer that an expression is, where it is an integer without a sign
abbrev pub integer_in : Settings → Exp → Option ℤ
integer_in p (tree.constant (constant.Number (numeral.Integer digits))) = integer_written p digits
integer_in p e = None

-- whether an expression is an integer without a sign, in this interval
abbrev pub lies_in : Settings → ℤ → ℤ → Exp → Bool
lies_in p low high e = lies_between low high (integer_in p e)

-- the digits of `round` and `trunc`: one `-` may stand before them
abbrev pub are_digits : Settings → Exp → Bool
are_digits p (tree.unary sign.Minus e) = lies_in p (pos 0) (pos 9) e
are_digits p e = lies_in p (pos 0) (pos 9) e

-- whether the second operand, if there is one, passes a test
abbrev pub second_passes : (Exp → Bool) → Exps → Bool
second_passes test (tree.exp a (tree.exp d es)) = test d
second_passes test es = true

abbrev pub third_passes : (Exp → Bool) → Exps → Bool
third_passes test (tree.exp a (tree.exp i (tree.exp l es))) = test l
third_passes test es = true

-- whether the operands that have to be literals are literals in their intervals
abbrev pub literals_fit : Settings → FunctionName → Exps → Bool
literals_fit p function.Round es = second_passes (are_digits p) es
literals_fit p function.Trunc es = second_passes (are_digits p) es
literals_fit p function.Substr es = second_passes (lies_in p (pos 1) largest_place) es && third_passes (lies_in p (pos 0) largest_place) es
literals_fit p other es = true
