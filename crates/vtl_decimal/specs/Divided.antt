-- A division that still has its rest.
use Rattle.std.specs.Prelude.{ℕ, ◌*◌, ◌/◌, ◌%◌, ◌^◌, ◌<◌, ◌≡◌, Bool, ◌==◌, nat_lt, not, if◌then◌else◌, List}
use Rattle.std.specs.List.{list_any}
use Rattle.vtl_decimal.specs.declared.quotient.Rest.{Rest}
use Rattle.vtl_decimal.specs.declared.quotient.Rest.TheVariants.{Zero, BelowHalf, Half, AboveHalf}
use Rattle.vtl_decimal.specs.declared.quotient.Divided.{Divided}

-- where the rest r stands between zero and the divisor q
abbrev pub place_of_rest : ℕ → ℕ → Rest
place_of_rest r q = if r == 0 then Zero else if nat_lt (2 * r) q then BelowHalf else if 2 * r == q then Half else AboveHalf

-- the quotient and the rest of p by q, where the quotient has at most 18 digits
pub record IsDivided (p q : ℕ) (d : Divided) : Type 0 where
  pub units : d.units ≡ p / q
  pub rest : d.rest ≡ place_of_rest (p % q) q
  pub small : d.units < 10 ^ 18

-- one of the digits is not `0`
abbrev pub has_nonzero : List ℕ → Bool
has_nonzero ds = list_any (λ d. not (d == 48)) ds
