-- Which numbers and integers there are.
use Rattle.std.specs.Prelude.{ℕ, ◌-◌, ◌^◌, nat_lt, if◌then◌else◌, ℤ, unsigned_abs, Result, Ok, Err}
use Rattle.vtl_decimal.specs.declared.number.Fault.{Fault}
use Rattle.vtl_decimal.specs.declared.number.Fault.TheVariants.{Range}

-- the number of k units, where it has at most 18 digits
abbrev pub fit_number : ℤ → Result ℤ Fault
fit_number k = if nat_lt (unsigned_abs k) (10 ^ 18) then Ok k else Err Range

-- the integer n, where it is a number of at most 18 digits at the scale s
abbrev pub fit_integer : ℕ → ℤ → Result ℤ Fault
fit_integer s n = if nat_lt (unsigned_abs n) (10 ^ (18 - s)) then Ok n else Err Range
