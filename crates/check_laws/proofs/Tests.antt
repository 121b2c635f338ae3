-- Tests that are not broken.
use Rattle.std.proofs.Common.{◌≡◌, ℕ, ◌≤◌, false, refl, arith}
use Rattle.std.proofs.lemmas.Bool.{eqb-false, ltb-false}
use Rattle.std.specs.Prelude.{nat_eq, nat_lt}

pub nonzero : (n : ℕ) → nat_eq n 0 ≡ false → 1 ≤ n
nonzero n e = let h : n ≡ 0 → ⊥ = eqb-false n 0 e in omega (arith, h)

pub below : (m n : ℕ) → nat_lt m n ≡ false → n ≤ m
below m n e = ltb-false m n e
