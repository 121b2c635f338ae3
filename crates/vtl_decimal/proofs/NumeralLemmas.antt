-- The reading of numerals, step by step.
use Rattle.std.proofs.Common.{ℤ, ℕ, ◌≡◌, Bool, List, drop, Some, ap}
use Rattle.std.specs.Prelude.{option_and_then}
use Rattle.std.specs.List.{before_first}
use Rattle.vtl_decimal.specs.Numeral.{is_mark, is_decimal_point, from_first, exponent_of, with_digits, unsigned_numeral_of}

-- a numeral whose exponent is spelled
pub unsigned_numeral_some : (negative : Bool) (t : List ℕ) (e : ℤ) → exponent_of (from_first is_mark t) ≡ Some e → unsigned_numeral_of negative t ≡ with_digits negative (before_first is_decimal_point (before_first is_mark t)) (drop 1 (from_first is_decimal_point (before_first is_mark t))) e
unsigned_numeral_some negative t e h =
    ap (option_and_then (with_digits negative (before_first is_decimal_point (before_first is_mark t)) (drop 1 (from_first is_decimal_point (before_first is_mark t))))) h
