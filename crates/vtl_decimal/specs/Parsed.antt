-- What a contract sees of a numeral that was taken apart.
use Rattle.std.specs.Prelude.{◌<◌, IsTrue, unsigned_abs}
use Rattle.vtl_decimal.specs.declared.parse.Numeral.{Numeral as Parsed}
use Rattle.std.specs.Str.{all_ascii_digits}
use Rattle.vtl_decimal.specs.Numeral.{Numeral}

abbrev pub numeral_view : Parsed → Numeral
numeral_view n = record { negative = n.negative; whole = n.whole.now; fraction = n.fraction.now; exponent = n.exponent }

-- what every numeral that is read keeps
pub record IsTakenApart (n : Numeral) : Type 0 where
  pub whole_digits : IsTrue (all_ascii_digits n.whole)
  pub fraction_digits : IsTrue (all_ascii_digits n.fraction)
  pub exponent_fits : unsigned_abs n.exponent < 1000
