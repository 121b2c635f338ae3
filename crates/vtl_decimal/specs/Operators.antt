-- The operators on numbers. A number is the whole k of its units, of which 10 ^ s make one at the scale s.
use Rattle.std.specs.Prelude.{ℕ, ◌^◌, ◌==◌, if◌then◌else◌, ℤ, pos, ◌*ℤ◌, ◌-ℤ◌, unsigned_abs, Result, Err}
use Rattle.std.specs.Int.RustNames.{int_le}
use Rattle.vtl_decimal.specs.declared.number.Fault.{Fault}
use Rattle.vtl_decimal.specs.declared.number.Fault.TheVariants.{DivZero}
use Rattle.vtl_decimal.specs.declared.settings.Rounding.{Rounding}
use Rattle.vtl_decimal.specs.Range.{fit_number}
use Rattle.vtl_decimal.specs.Rounding.{rounded_quotient, floor_of_quotient}

abbrev pub product : Rounding → ℕ → ℤ → ℤ → Result ℤ Fault
product m s a b = fit_number (rounded_quotient m (a *ℤ b) (pos (10 ^ s)))

abbrev pub quotient : Rounding → ℕ → ℤ → ℤ → Result ℤ Fault
quotient m s a b = if unsigned_abs b == 0 then Err DivZero else fit_number (rounded_quotient m (a *ℤ pos (10 ^ s)) b)

-- what is left of a where b is taken away as often as the floor of a / b says
abbrev pub remainder : ℤ → ℤ → ℤ
remainder a b = if unsigned_abs b == 0 then a else a -ℤ (b *ℤ floor_of_quotient a b)

-- the units of the last place that is kept, where d digits after the point are
abbrev pub place_value : ℕ → ℤ → ℕ
place_value s d = 10 ^ unsigned_abs (pos s -ℤ d)

-- k with d digits after the point, or with zeros before it where d is negative
abbrev pub rounded_at : Rounding → ℕ → ℤ → ℤ → ℤ
rounded_at m s d k = if int_le (pos s) d then k else rounded_quotient m k (pos (place_value s d)) *ℤ pos (place_value s d)
