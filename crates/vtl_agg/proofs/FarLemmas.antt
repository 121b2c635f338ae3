-- What does not fit in 128 bits is out of range, and so is its quotient by a count.
use Rattle.std.proofs.Common.{◌≡◌, ℕ, ◌+◌, ◌*◌, ◌/◌, ◌%◌, ◌<◌, ◌≤◌, ◌^◌, ℤ, pos, negsuc, Bool, true, false, cond, ◌⊎◌, inl, inr, arith}
use Rattle.std.specs.Prelude.{◌+ℤ◌, unsigned_abs, Err}
use Rattle.std.specs.Int.{w128}
use Rattle.std.specs.Int.RustNames.{FitsSigned}
use Rattle.std.proofs.lemmas.Nat.{le-div}
use Rattle.std.proofs.lemmas.Int.{fits_signed_from_abs, ints}
use Rattle.vtl_decimal.specs.Range.{fit_number}
use Rattle.vtl_decimal.specs.Rounding.{rounds_up, rounded_size, rounded_quotient}
use Rattle.vtl_decimal.specs.declared.settings.Rounding.{Rounding}
use Rattle.vtl_decimal.specs.declared.number.Fault.TheVariants.{Range}

fits_or_not : (n : ℕ) → (n < 2 ^ 127) ⊎ (2 ^ 127 ≤ n)
fits_or_not n = search arith

pub wide : (z : ℤ) → (FitsSigned w128 z → ⊥) → 2 ^ 127 ≤ unsigned_abs z
wide z no_fit = elim (fits_or_not (unsigned_abs z)) [ inl below ↦ absurd (no_fit (fits_signed_from_abs w128 z below)) | inr above ↦ above ]

-- a sum with something small stays far
pub far_sum : (a b : ℤ) → 2 ^ 127 ≤ unsigned_abs a → unsigned_abs b ≤ 2 ^ 126 → 2 ^ 126 ≤ unsigned_abs (a +ℤ b)
far_sum a b h k = grind (arith, ints)

-- ---- what is far has too many digits
pub far_number : (k : ℤ) → 2 ^ 126 ≤ unsigned_abs k → fit_number k ≡ Err Range
far_number k h = grind (arith, h)

no_number : (k : ℤ) → 10 ^ 18 ≤ unsigned_abs k → fit_number k ≡ Err Range
no_number k h = grind (arith, h)

some_more : (b : Bool) (n m : ℕ) → m ≤ n → m ≤ n + cond b 1 0
some_more true n m h = omega (arith, h)
some_more false n m h = omega (arith, h)

large_quotient : (p q : ℕ) → 0 < q → q ≤ 2 ^ 63 → 2 ^ 126 ≤ p → 10 ^ 18 ≤ p / q
large_quotient p q h small large =
    let least : 10 ^ 18 * q ≤ p = omega (arith, small, large) in
    le-div (10 ^ 18) p q h least

large_size : (m : Rounding) (p q : ℕ) → 0 < q → q ≤ 2 ^ 63 → 2 ^ 126 ≤ p → 10 ^ 18 ≤ rounded_size m p q
large_size m p q h small large = some_more (rounds_up m (p / q) (p % q) q) (p / q) (10 ^ 18) (large_quotient p q h small large)

large_mean : (m : Rounding) (p : ℤ) (q : ℕ) → 0 < q → q ≤ 2 ^ 63 → 2 ^ 126 ≤ unsigned_abs p → 10 ^ 18 ≤ unsigned_abs (rounded_quotient m p (pos q))
large_mean m (pos p) q h small large = large_size m p q h small large
large_mean m (negsuc p) q h small large =
    let size : 10 ^ 18 ≤ rounded_size m (p + 1) q = large_size m (p + 1) q h small (grind (arith, large)) in
    grind (arith, size)

pub far_mean : (m : Rounding) (p : ℤ) (q : ℕ) → 0 < q → q ≤ 2 ^ 63 → 2 ^ 126 ≤ unsigned_abs p → fit_number (rounded_quotient m p (pos q)) ≡ Err Range
far_mean m p q h small large = no_number (rounded_quotient m p (pos q)) (large_mean m p q h small large)
