-- The values of the scalar operators on integers and numbers. A number is the whole k of its units.
use Rattle.std.specs.Prelude.{◌^◌, ◌&&◌, if◌then◌else◌, ℤ, pos, negsuc, neg_ℤ, ◌+ℤ◌, ◌-ℤ◌, ◌*ℤ◌, unsigned_abs, Option, Some, None, Ok, Err}
use Rattle.std.specs.Int.RustNames.{int_le}
use Rattle.vtl_decimal.specs.declared.settings.Rounding.TheVariants.{Down}
use Rattle.vtl_decimal.specs.Settings.{Settings}
use Rattle.vtl_decimal.specs.Range.{fit_number, fit_integer}
use Rattle.vtl_decimal.specs.Rounding.{floor_quotient, ceil_quotient}
use Rattle.vtl_decimal.specs.Operators.{product, quotient, remainder, rounded_at}
use Rattle.vtl_cell.specs.Outcome.{Outcome, after}
use Rattle.vtl_cell.specs.declared.cell.Cell.{Cell}
use Rattle.vtl_cell.specs.declared.cell.Cell.TheVariants as c

-- the number, or the fault of the operation that gives it
abbrev pub number : Outcome ℤ → Outcome Cell
number (Ok k) = Ok (c.Num k)
number (Err e) = Err e

abbrev pub integer : Outcome ℤ → Outcome Cell
integer (Ok n) = Ok (c.Int n)
integer (Err e) = Err e

-- an integer in units of the number that equals it
abbrev pub units : Settings → ℤ → ℤ
units p n = n *ℤ pos (10 ^ p.scale)

-- the number that equals an integer
abbrev pub as_number : Settings → ℤ → Outcome ℤ
as_number p n = fit_number (units p n)

-- the number that an operand stands for, where it is a number or an integer
abbrev pub number_in : Settings → Cell → Outcome (Option ℤ)
number_in p (c.Int n) = after (as_number p n) (λ k. Ok (Some k))
number_in p (c.Num k) = Ok (Some k)
number_in p other = Ok None

abbrev pub on_number : (ℤ → Outcome Cell) → Option ℤ → Outcome Cell
on_number f (Some k) = f k
on_number f None = Ok c.Null

-- two operands of an operator that takes integers or numbers: an integer beside a number is a number
pub data Pair : Type 0 where
  integers : ℤ → ℤ → Pair
  numbers : ℤ → ℤ → Pair
  neither : Pair

abbrev pub pair_of : Settings → Cell → Cell → Outcome Pair
pair_of p (c.Int a) (c.Int b) = Ok (integers a b)
pair_of p (c.Int a) (c.Num b) = after (as_number p a) (λ k. Ok (numbers k b))
pair_of p (c.Num a) (c.Int b) = after (as_number p b) (λ k. Ok (numbers a k))
pair_of p (c.Num a) (c.Num b) = Ok (numbers a b)
pair_of p a b = Ok neither

-- ---- the rows

-- +a
abbrev pub identity_of : Cell → Cell
identity_of (c.Int n) = c.Int n
identity_of (c.Num k) = c.Num k
identity_of other = c.Null

-- -a
abbrev pub negation_of : Settings → Cell → Outcome Cell
negation_of p (c.Int n) = integer (fit_integer p.scale (neg_ℤ n))
negation_of p (c.Num k) = Ok (c.Num (neg_ℤ k))
negation_of p other = Ok c.Null

-- abs(a)
abbrev pub absolute_of : Settings → Cell → Outcome Cell
absolute_of p (c.Int n) = integer (fit_integer p.scale (pos (unsigned_abs n)))
absolute_of p (c.Num k) = Ok (c.Num (pos (unsigned_abs k)))
absolute_of p other = Ok c.Null

-- a + b
abbrev pub sum_of : Settings → Pair → Outcome Cell
sum_of p (integers a b) = integer (fit_integer p.scale (a +ℤ b))
sum_of p (numbers a b) = number (fit_number (a +ℤ b))
sum_of p neither = Ok c.Null

-- a - b
abbrev pub difference_of : Settings → Pair → Outcome Cell
difference_of p (integers a b) = integer (fit_integer p.scale (a -ℤ b))
difference_of p (numbers a b) = number (fit_number (a -ℤ b))
difference_of p neither = Ok c.Null

-- a * b
abbrev pub product_of : Settings → Pair → Outcome Cell
product_of p (integers a b) = integer (fit_integer p.scale (a *ℤ b))
product_of p (numbers a b) = number (product p.rounding p.scale a b)
product_of p neither = Ok c.Null

-- a / b
abbrev pub quotient_of : Settings → Pair → Outcome Cell
quotient_of p (integers a b) = after (as_number p a) (λ k. after (as_number p b) (λ l. number (quotient p.rounding p.scale k l)))
quotient_of p (numbers a b) = number (quotient p.rounding p.scale a b)
quotient_of p neither = Ok c.Null

-- mod(a, b)
abbrev pub remainder_of : Settings → Pair → Outcome Cell
remainder_of p (integers a b) = integer (fit_integer p.scale (remainder a b))
remainder_of p (numbers a b) = Ok (c.Num (remainder a b))
remainder_of p neither = Ok c.Null

-- floor(a)
abbrev pub whole_below : Settings → Cell → Outcome Cell
whole_below p a = after (number_in p a) (on_number (λ k. integer (fit_integer p.scale (floor_quotient k (10 ^ p.scale)))))

-- ceil(a)
abbrev pub whole_above : Settings → Cell → Outcome Cell
whole_above p a = after (number_in p a) (on_number (λ k. integer (fit_integer p.scale (ceil_quotient k (10 ^ p.scale)))))

-- the digits that may be asked for: -9 to 9
abbrev pub digits_in : Cell → Option ℤ
digits_in (c.Int d) = if int_le (negsuc 8) d && int_le d (pos 9) then Some d else None
digits_in other = None

-- what f gives of the number at so many digits
abbrev pub at_digits : (ℤ → ℤ → Outcome Cell) → Option ℤ → Outcome (Option ℤ) → Outcome Cell
at_digits f None a = Ok c.Null
at_digits f (Some d) a = after a (on_number (f d))

-- round(a, d)
abbrev pub rounded_of : Settings → Cell → Cell → Outcome Cell
rounded_of p a d = at_digits (λ digits k. number (fit_number (rounded_at p.rounding p.scale digits k))) (digits_in d) (number_in p a)

-- trunc(a, d)
abbrev pub truncated_of : Settings → Cell → Cell → Outcome Cell
truncated_of p a d = at_digits (λ digits k. Ok (c.Num (rounded_at Down p.scale digits k))) (digits_in d) (number_in p a)
