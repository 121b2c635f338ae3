-- The units of one, at the scales that there are.
use Rattle.std.proofs.Common.{ℕ, ◌^◌, ◌≤◌, arith}
use Rattle.vtl_decimal.proofs.PowerLemmas.{power_of_ten_fits}

pub unit_fits : (s : ℕ) → s ≤ 9 → 10 ^ s ≤ 10 ^ 18
unit_fits s h = (power_of_ten_fits s (omega arith)).1
