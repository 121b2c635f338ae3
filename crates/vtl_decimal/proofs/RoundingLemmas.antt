-- How large a rounded quotient is.
use Rattle.std.proofs.Common.{ℕ, ◌+◌, ◌*◌, ◌/◌, ◌%◌, ◌<◌, ◌≤◌, ◌≡◌, Bool, true, false, ℤ, pos, negsuc, refl, ap, ◌⊎◌, inl, inr, cond, arith}
use Rattle.std.proofs.Math.Nat.{lt_of_mul-lt-mul_left, le_of_mul-le-mul_left, mul-le-mul_right}
use Rattle.std.specs.Prelude.{unsigned_abs, ◌==◌}
use Rattle.vtl_decimal.specs.Divided.{place_of_rest}
use Rattle.vtl_decimal.specs.declared.quotient.Rest.TheVariants.{Zero, BelowHalf, Half, AboveHalf}
use Rattle.vtl_decimal.specs.declared.settings.Rounding.{Rounding}
use Rattle.vtl_decimal.specs.declared.settings.Rounding.TheVariants.{HalfUp, HalfEven, Down}
use Rattle.vtl_decimal.specs.Rounding.{rounds_up, rounded_size, rounded_quotient}

-- a quotient without a rest is not rounded up
pub rounds_up_no_rest : (m : Rounding) (z q : ℕ) → 0 < q → rounds_up m z 0 q ≡ false
rounds_up_no_rest HalfUp z q h = grind arith
rounds_up_no_rest HalfEven z q h = grind arith
rounds_up_no_rest Down z q h = refl

-- a natural is zero or not
pub zero_or_more : (n : ℕ) → (n ≡ 0) ⊎ (0 < n)
zero_or_more n = search arith

-- a flag adds at most one
flag_adds : (b : Bool) (z n : ℕ) → z < n → z + cond b 1 0 ≤ n
flag_adds true z n h = omega arith
flag_adds false z n h = omega arith

within : (m : Rounding) (z r q b : ℕ) → r < q → q * z + r ≤ q * b → z + cond (rounds_up m z r q) 1 0 ≤ b
within m z r q b small le =
    elim (zero_or_more r) [
      | inl none ↦
          let no : rounds_up m z r q ≡ false = rw none (rounds_up_no_rest m z q (omega arith)) in
          let low : q * z ≤ q * b = omega arith in
          let le' : z ≤ b = le_of_mul-le-mul_left {m = z} {n = b} {k = q} low (omega arith) in
          rw no (omega arith)
      | inr some ↦
          let low : q * z < q * b = omega arith in
          flag_adds (rounds_up m z r q) z b (lt_of_mul-lt-mul_left q {m = z} {n = b} low)
    ]

-- a rounded quotient is at most the whole number that its exact value is at most
pub rounded_size_within : (m : Rounding) (p q b : ℕ) → 0 < q → p ≤ q * b → rounded_size m p q ≤ b
rounded_size_within m p q b h le =
    let parts : q * (p / q) + p % q ≡ p = omega arith in
    let small : p % q < q = omega arith in
    within m (p / q) (p % q) q b small (omega arith)

-- and so is its size under either sign
pub rounded_quotient_within : (m : Rounding) (p : ℤ) (q b : ℕ) → 0 < q → unsigned_abs p ≤ q * b → unsigned_abs (rounded_quotient m p (pos q)) ≤ b
rounded_quotient_within m (pos p) q b h le = rounded_size_within m p q b h le
rounded_quotient_within m (negsuc p) q b h le =
    let le' : p + 1 ≤ q * b = omega arith in
    let w : rounded_size m (p + 1) q ≤ b = rounded_size_within m (p + 1) q b h le' in
    grind arith

-- ---- the rule, from where the rest stands
pub up_without_rest : (m : Rounding) (z r q : ℕ) → 0 < q → Zero ≡ place_of_rest r q → false ≡ rounds_up m z r q
up_without_rest HalfUp z r q h e = grind arith
up_without_rest HalfEven z r q h e = grind arith
up_without_rest Down z r q h e = refl

pub up_below_half : (m : Rounding) (z r q : ℕ) → BelowHalf ≡ place_of_rest r q → false ≡ rounds_up m z r q
up_below_half HalfUp z r q e = grind arith
up_below_half HalfEven z r q e = grind arith
up_below_half Down z r q e = refl

pub up_at_half : (z r q : ℕ) → Half ≡ place_of_rest r q → true ≡ rounds_up HalfUp z r q
up_at_half z r q e = grind arith

pub even_at_half : (odd : Bool) (z r q : ℕ) → odd ≡ (z % 2 == 1) → Half ≡ place_of_rest r q → odd ≡ rounds_up HalfEven z r q
even_at_half odd z r q o e = grind arith

pub up_above_half : (z r q : ℕ) → AboveHalf ≡ place_of_rest r q → true ≡ rounds_up HalfUp z r q
up_above_half z r q e = grind arith

pub even_above_half : (z r q : ℕ) → AboveHalf ≡ place_of_rest r q → true ≡ rounds_up HalfEven z r q
even_above_half z r q e = grind arith

pub ruleset rounds_up_by_rest = (up_without_rest, up_below_half, up_at_half, even_at_half, up_above_half, even_above_half)

-- a quotient that is rounded up is below its dividend
pub up_fits : (m : Rounding) (p q : ℕ) → 0 < q → true ≡ rounds_up m (p / q) (p % q) q → p / q + 1 ≤ p
up_fits m p q h up =
    let size : p / q + 1 ≡ rounded_size m p q = ap (λ b. p / q + cond b 1 0) up in
    let most : 1 * p ≤ q * p = mul-le-mul_right p h in
    omega (arith, size, rounded_size_within m p q p h (omega arith))
