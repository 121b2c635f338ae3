-- A remainder is no larger than one of its operands.
use Rattle.std.proofs.Common.{ℕ, zero, suc, ◌+◌, ◌*◌, ◌/◌, ◌<◌, ◌≡◌, ℤ, pos, negsuc, neg_ℤ, ◌-ℤ◌, ◌*ℤ◌, sym, ap, ◌∙◌, arith, add-one}
use Rattle.std.specs.Prelude.{unsigned_abs}
use Rattle.std.proofs.lemmas.Int.{ints}
use Rattle.std.proofs.Math.IntN.{pos-*ℤ-negsuc, negsuc-*ℤ-pos, neg_ℤ-neg_ℤ}
use Rattle.vtl_decimal.specs.Rounding.{floor_of_quotient, floor_quotient}
use Rattle.vtl_decimal.specs.Operators.{remainder}

-- what a divisor above zero leaves
abbrev left_by : ℤ → ℕ → ℤ
left_by a q = a -ℤ (pos q *ℤ floor_quotient a q)

left_is_below : (a : ℤ) (q : ℕ) → 0 < q → unsigned_abs (left_by a q) < q
left_is_below (pos p) q h = omega (arith, ints)
left_is_below (negsuc p) q h =
    let size : q * suc (p / q) ≡ q * (p / q) + q = omega arith in
    rw (pos-*ℤ-negsuc q (p / q)) (omega (arith, ints, size))

negative_times : (q : ℕ) (f : ℤ) → negsuc q *ℤ f ≡ neg_ℤ (pos (suc q) *ℤ f)
negative_times q (pos k) = negsuc-*ℤ-pos q k
negative_times q (negsuc k) = sym (ap neg_ℤ (pos-*ℤ-negsuc (suc q) k) ∙ neg_ℤ-neg_ℤ (pos (suc q * suc k)))

-- a divisor below zero leaves what its opposite leaves of the opposite
turned : (a y : ℤ) → unsigned_abs (a -ℤ neg_ℤ y) ≡ unsigned_abs (neg_ℤ a -ℤ y)
turned a y = omega (arith, ints)

left_by_negative : (a : ℤ) (q : ℕ) → unsigned_abs (a -ℤ (negsuc q *ℤ floor_quotient (neg_ℤ a) (suc q))) ≡ unsigned_abs (left_by (neg_ℤ a) (suc q))
left_by_negative a q =
    let f = floor_quotient (neg_ℤ a) (suc q) in
    rw (negative_times q f) (turned a (pos (suc q) *ℤ f))

remainder_by_nonzero : (a b : ℤ) → 0 < unsigned_abs b → remainder a b ≡ a -ℤ (b *ℤ floor_of_quotient a b)
remainder_by_nonzero a b h = grind arith

pub remainder_is_small : (a b : ℤ) (m : ℕ) → unsigned_abs a < m → unsigned_abs b < m → unsigned_abs (remainder a b) < m
remainder_is_small a (pos zero) m ha hb = ha
remainder_is_small a (pos (suc q)) m ha hb =
    let h = left_is_below a (suc q) (omega arith) in
    let small : unsigned_abs (left_by a (suc q)) < m = omega arith in
    rw (remainder_by_nonzero a (pos (suc q)) (omega arith)) small
remainder_is_small a (negsuc q) m ha hb =
    let h = left_is_below (neg_ℤ a) (suc q) (omega arith) in
    let e = left_by_negative a q in
    let small : unsigned_abs (a -ℤ (negsuc q *ℤ floor_quotient (neg_ℤ a) (suc q))) < m = omega arith in
    rw (remainder_by_nonzero a (negsuc q) (omega arith)) (rw add-one small)
