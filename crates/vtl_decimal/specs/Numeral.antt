-- The texts that are numerals, and the number that each stands for.
use Rattle.std.specs.Prelude.{ℕ, ◌+◌, ◌*◌, ◌/◌, ◌%◌, ◌^◌, ◌<◌, ◌≤◌, ◌≡◌, Bool, true, false, ◌&&◌, ◌||◌, ◌==◌, nat_lt, nat_le, if◌then◌else◌, IsTrue, ℤ, pos, negsuc, neg_ℤ, List, [], ◌∷◌, ◌++◌, length, drop, Option, Some, None, option_and_then}
use Rattle.std.specs.List.{position_or_len, before_first}
use Rattle.std.specs.Result.{result_ok}
use Rattle.std.specs.Str.{all_ascii_digits}
use Rattle.std.specs.Str.Parse.{digits_value, starts_with_minus, without_leading_sign}
use Rattle.vtl_decimal.specs.Range.{fit_number, fit_integer}
use Rattle.vtl_decimal.specs.Rounding.{rounded_quotient}
use Rattle.vtl_decimal.specs.Settings.{Settings}

-- what a numeral says: its sign, its digits on both sides of the point, and the power of ten that they are times
pub record Numeral : Type 0 where
  pub negative : Bool
  pub whole : List ℕ
  pub fraction : List ℕ
  pub exponent : ℤ

-- n, with the sign turned where the flag is set
abbrev pub signed : Bool → ℕ → ℤ
signed false n = pos n
signed true n = neg_ℤ (pos n)

-- ---- the grammar

-- a sign may be missing
pub data IsSign : List ℕ → Bool → Type 0 where
  no_sign : IsSign [] false
  plus : IsSign (43 ∷ []) false
  minus : IsSign (45 ∷ []) true

-- the point may be missing where no digits follow it
pub data IsPoint : List ℕ → List ℕ → Type 0 where
  no_point : IsPoint [] []
  point : (fraction : List ℕ) → IsPoint (46 ∷ []) fraction

-- `e` or `E`
pub data IsMark : ℕ → Type 0 where
  small : IsMark 101
  capital : IsMark 69

-- an exponent may be missing; otherwise it is a mark, a sign that may be missing, and one to three digits
pub data IsExponent : List ℕ → ℤ → Type 0 where
  no_exponent : IsExponent [] (pos 0)
  times_ten_to : (mark : ℕ) (sign digits : List ℕ) (negative : Bool) → IsMark mark → IsSign sign negative → IsTrue (all_ascii_digits digits) → 0 < length digits → length digits ≤ 3 → IsExponent (mark ∷ (sign ++ digits)) (signed negative (digits_value 10 digits))

-- a text is a sign, digits, a point, digits and an exponent, with a digit on one side of the point
pub record SpellsNumeral (text : List ℕ) (n : Numeral) : Type 0 where
  pub sign : List ℕ
  pub separator : List ℕ
  pub power : List ℕ
  pub parts : text ≡ sign ++ (n.whole ++ (separator ++ (n.fraction ++ power)))
  pub signs : IsSign sign n.negative
  pub whole_digits : IsTrue (all_ascii_digits n.whole)
  pub points : IsPoint separator n.fraction
  pub fraction_digits : IsTrue (all_ascii_digits n.fraction)
  pub some_digit : 0 < length n.whole + length n.fraction
  pub exponents : IsExponent power n.exponent

-- ---- its reading

abbrev pub is_mark : ℕ → Bool
is_mark b = (b == 101) || (b == 69)

abbrev pub is_decimal_point : ℕ → Bool
is_decimal_point b = b == 46

-- what stands from the first element on that passes the test
abbrev pub from_first : (ℕ → Bool) → List ℕ → List ℕ
from_first p xs = drop (position_or_len p xs) xs

-- the power of ten after the mark, where one to three digits spell it
abbrev pub power_of : List ℕ → Option ℤ
power_of t = if all_ascii_digits (without_leading_sign t) && (nat_lt 0 (length (without_leading_sign t)) && nat_le (length (without_leading_sign t)) 3) then Some (signed (starts_with_minus t) (digits_value 10 (without_leading_sign t))) else None

-- the exponent that stands behind the digits, if one does
abbrev pub exponent_of : List ℕ → Option ℤ
exponent_of [] = Some (pos 0)
exponent_of (mark ∷ t) = power_of t

-- the digits on both sides of the point, where they are digits and there is one
abbrev pub with_digits : Bool → List ℕ → List ℕ → ℤ → Option Numeral
with_digits negative whole fraction exponent = if all_ascii_digits whole && (all_ascii_digits fraction && nat_lt 0 (length whole + length fraction)) then Some (record { negative = negative; whole = whole; fraction = fraction; exponent = exponent }) else None

-- the numeral of a text without its sign
abbrev pub unsigned_numeral_of : Bool → List ℕ → Option Numeral
unsigned_numeral_of negative t =
    let mantissa = before_first is_mark t in
    option_and_then (with_digits negative (before_first is_decimal_point mantissa) (drop 1 (from_first is_decimal_point mantissa))) (exponent_of (from_first is_mark t))

-- the numeral that the text spells
abbrev pub numeral_of : List ℕ → Option Numeral
numeral_of t = unsigned_numeral_of (starts_with_minus t) (without_leading_sign t)

-- ---- its value: in units of the scale s it is the numerator over the denominator

-- the power of ten that makes it larger, and that which makes it smaller
abbrev pub raised : ℤ → ℕ
raised (pos e) = e
raised (negsuc e) = 0

abbrev pub lowered : ℤ → ℕ
lowered (pos e) = 0
lowered (negsuc e) = e + 1

abbrev pub numerator : ℕ → Numeral → ℕ
numerator s n = digits_value 10 (n.whole ++ n.fraction) * 10 ^ (s + raised n.exponent)

abbrev pub denominator : Numeral → ℕ
denominator n = 10 ^ (length n.fraction + lowered n.exponent)

-- the number of the numeral, rounded once from its exact value, where it is in range
abbrev pub number_of : Settings → Numeral → Option ℤ
number_of p n = result_ok (fit_number (rounded_quotient p.rounding (signed n.negative (numerator p.scale n)) (pos (denominator n))))

-- the integer of the numeral, where its exact value is whole and in range
abbrev pub integer_of : ℕ → Numeral → Option ℤ
integer_of s n = if numerator 0 n % denominator n == 0 then result_ok (fit_integer s (signed n.negative (numerator 0 n / denominator n))) else None

-- the number and the integer that a text of any length spells
abbrev pub number_spelled : Settings → List ℕ → Option ℤ
number_spelled p t = option_and_then (number_of p) (numeral_of t)

abbrev pub integer_spelled : ℕ → List ℕ → Option ℤ
integer_spelled s t = option_and_then (integer_of s) (numeral_of t)

-- a text of at most this many bytes is read
abbrev pub IsShort : List ℕ → Type 0
IsShort t = length t ≤ 64

-- the number and the integer that are read from a text
abbrev pub number_read : Settings → List ℕ → Option ℤ
number_read p t = if nat_le (length t) 64 then number_spelled p t else None

abbrev pub integer_read : ℕ → List ℕ → Option ℤ
integer_read s t = if nat_le (length t) 64 then integer_spelled s t else None
