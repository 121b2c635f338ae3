-- The sign of a quotient.
use Rattle.std.specs.Prelude.{Bool, cond, ℤ, pos}
use Rattle.std.specs.Int.RustNames.{int_le, int_lt}

-- whether a quotient that is not zero is below it
abbrev pub has_minus : ℤ → ℤ → Bool
has_minus p q = cond (int_lt p (pos 0)) (int_le (pos 0) q) (int_lt q (pos 0))
