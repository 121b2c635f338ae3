-- What every numeral that is read keeps.
use Rattle.std.proofs.Common.{ℕ, ℤ, ◌≡◌, ◌<◌, List, Option, Some, None, sym, arith, refl}
use Rattle.std.specs.Prelude.{unsigned_abs, IfSome}
use Rattle.std.specs.Option.{option_map}
use Rattle.std.specs.Str.Parse.{digits_value}
use Rattle.vtl_decimal.specs.Numeral.{Numeral, IsExponent, no_exponent, times_ten_to, numeral_of}
use Rattle.vtl_decimal.specs.declared.parse.Numeral.{Numeral as Parsed}
use Rattle.vtl_decimal.specs.Parsed.{IsTakenApart, numeral_view}
use Rattle.vtl_decimal.proofs.DigitLemmas.{value_of_three}
use Rattle.vtl_decimal.proofs.SpellingLemmas.{numeral_spelled}
use Rattle.vtl_decimal.proofs.ValueLemmas.{signed_size}

exponent_small : (power : List ℕ) (e : ℤ) → IsExponent power e → unsigned_abs e < 1000
exponent_small _ _ no_exponent = omega arith
exponent_small _ _ (times_ten_to mark sign digits negative marked signs h some few) =
    omega (arith, signed_size negative (digits_value 10 digits), value_of_three digits h few)

pub numeral_parsed : (t : List ℕ) (n : Numeral) → numeral_of t ≡ Some n → IsTakenApart n
numeral_parsed t n h =
    let s = numeral_spelled t n h in
    record {
      whole_digits = s.whole_digits;
      fraction_digits = s.fraction_digits;
      exponent_fits = exponent_small s.power n.exponent s.exponents;
    }

pub parsed_if : (o : Option Parsed) (t : List ℕ) → option_map numeral_view o ≡ numeral_of t → IfSome o (λ n. IsTakenApart (numeral_view n))
parsed_if (Some n) t h = numeral_parsed t (numeral_view n) (sym h)
parsed_if None t h = tt
