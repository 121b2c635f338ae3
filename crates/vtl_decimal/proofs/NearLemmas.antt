-- A rounded quotient is near, and turns its sign with the dividend.
use Rattle.std.proofs.Common.{ℕ, zero, suc, ℤ, pos, negsuc, neg_ℤ, ◌-ℤ◌, ◌*ℤ◌, ◌≡◌, ◌+◌, ◌-◌, ◌*◌, ◌/◌, ◌%◌, ◌<◌, ◌≤◌, inl, inr, Bool, true, false, cond, refl, ap, sym, subst, ◌∙◌, arith}
use Rattle.std.specs.Prelude.{unsigned_abs, nat_lt, ◌==◌, ◌&&◌, ◌||◌}
use Rattle.std.proofs.lemmas.Bool.{and_parts, or_cases, eq-eqb, eqb-true, eqb-false, ltb-true, ltb-false, leb-true, leb-false, false≢true, or_parts}
use Rattle.std.proofs.lemmas.Int.{ints, unsigned_abs-mul}
use Rattle.std.proofs.lemmas.Nat.{div-add-mod'}
use Rattle.std.proofs.Math.IntN.{negsuc-*ℤ-pos, pos-*ℤ-negsuc, *ℤ-negsuc, zero-*ℤ, neg_ℤ-neg_ℤ}
use Rattle.vtl_decimal.specs.declared.settings.Rounding.{Rounding}
use Rattle.vtl_decimal.specs.declared.settings.Rounding.TheVariants.{HalfUp, HalfEven, Down}
use Rattle.vtl_decimal.specs.Rounding.{rounds_up, rounded_size, rounded_quotient, IsNearBySizes, IsNear}
use Rattle.vtl_decimal.proofs.RoundingLemmas.{rounded_size_within}

-- ---- sizes
even_at_tie : (z r q : ℕ) → 2 * r ≡ q → ((2 * r == q) && (z % 2 == 1)) ≡ false → z % 2 ≡ 0
even_at_tie z r q tie no_ =
    let not_odd : (z % 2 == 1) ≡ false = ap (λ b. b && (z % 2 == 1)) (sym (eq-eqb (2 * r) q tie)) ∙ no_ in
    let odd_fails = eqb-false (z % 2) 1 not_odd in
    omega (arith, odd_fails)

-- the quotient z that leaves the rest r
as_it_is : (m : Rounding) (z r q : ℕ) → r < q → rounds_up m z r q ≡ false → IsNearBySizes m (z * q + r) q z (z * q) r
as_it_is HalfUp z r q small down = let low = leb-false q (2 * r) down in (omega arith, λ tie. absurd (omega arith))
as_it_is HalfEven z r q small down =
    let no_ = or_parts (nat_lt q (2 * r)) ((2 * r == q) && (z % 2 == 1)) down in
    (ltb-false q (2 * r) no_.0, λ tie. even_at_tie z r q tie no_.1)
as_it_is Down z r q small down = (small, omega arith)

-- one more
even_above : (z r q : ℕ) → r < q → (nat_lt q (2 * r) || ((2 * r == q) && (z % 2 == 1))) ≡ true → (q ≤ 2 * r) × (2 * (q - r) ≡ q → (z + 1) % 2 ≡ 0)
even_above z r q small up =
    elim (or_cases (nat_lt q (2 * r)) ((2 * r == q) && (z % 2 == 1)) up) [
      | inl above ↦ let high = ltb-true q (2 * r) above in (omega arith, λ tie. absurd (omega arith))
      | inr tie ↦
          let both = and_parts (2 * r == q) (z % 2 == 1) tie in
          let same = eqb-true (2 * r) q both.0 in
          let odd = eqb-true (z % 2) 1 both.1 in
          (omega arith, λ _. omega arith)
    ]

one_more : (m : Rounding) (z r q : ℕ) → r < q → rounds_up m z r q ≡ true → IsNearBySizes m (z * q + r) q (z + 1) ((z + 1) * q) (q - r)
one_more HalfUp z r q small up = let high = leb-true q (2 * r) up in (omega arith, λ tie. omega arith)
one_more HalfEven z r q small up = let facts = even_above z r q small up in (omega (arith, facts.0), facts.1)
one_more Down z r q small up = absurd (false≢true up)

-- how far the product lies from the dividend
data IsApart (p product error : ℕ) : Type 0 where
  below : p ≡ product + error → IsApart p product error
  above : p + error ≡ product → IsApart p product error

record NearSize (m : Rounding) (p q : ℕ) : Type 0 where
  error : ℕ
  apart : IsApart p (rounded_size m p q * q) error
  near : IsNearBySizes m p q (rounded_size m p q) (rounded_size m p q * q) error

near_at : (m : Rounding) (z r q : ℕ) (up : Bool) → r < q → rounds_up m z r q ≡ up → (error : ℕ) × IsApart (z * q + r) ((z + cond up 1 0) * q) error × IsNearBySizes m (z * q + r) q (z + cond up 1 0) ((z + cond up 1 0) * q) error
near_at m z r q true small e = (q - r, above (omega arith), one_more m z r q small e)
near_at m z r q false small e =
    let P : ℕ → Type 0 = λ k. IsApart (z * q + r) (k * q) r × IsNearBySizes m (z * q + r) q k (k * q) r in
    let same : z ≡ z + 0 = omega arith in
    let both = subst P same (below refl, as_it_is m z r q small e) in
    (r, both.0, both.1)

near_size : (m : Rounding) (p q : ℕ) → 0 < q → NearSize m p q
near_size m p q h =
    let z = p / q in
    let r = p % q in
    let parts : z * q + r ≡ p = div-add-mod' p q in
    let small : r < q = omega arith in
    let found = near_at m z r q (rounds_up m z r q) small refl in
    let P : ℕ → Type 0 = λ x. IsApart x (rounded_size m p q * q) found.0 × IsNearBySizes m x q (rounded_size m p q) (rounded_size m p q * q) found.0 in
    let both = subst P parts (found.1, found.2) in
    record { error = found.0; apart = both.0; near = both.1 }

-- ---- signs
size_turned : (n : ℕ) → unsigned_abs (neg_ℤ (pos n)) ≡ n
size_turned zero = refl
size_turned (suc n) = refl

far_up : (p n e : ℕ) → IsApart p n e → unsigned_abs (pos p -ℤ pos n) ≡ e
far_up p n e (below h) = grind (arith, ints)
far_up p n e (above h) = grind (arith, ints)

far_down : (p n e : ℕ) → IsApart (p + 1) n e → unsigned_abs (negsuc p -ℤ neg_ℤ (pos n)) ≡ e
far_down p n e (below h) = grind (arith, ints)
far_down p n e (above h) = grind (arith, ints)

one_after : (n : ℕ) → n + 1 ≡ suc n
one_after n = omega arith

pub times_negative : (k q : ℕ) → neg_ℤ (pos k) *ℤ pos q ≡ neg_ℤ (pos (k * q))
times_negative zero q =
    let nothing : 0 * q ≡ 0 = omega arith in
    zero-*ℤ (pos q) ∙ ap (λ n. neg_ℤ (pos n)) (sym nothing)
times_negative (suc k) q = negsuc-*ℤ-pos k q

by_negative : (k q : ℕ) → pos k *ℤ negsuc q ≡ neg_ℤ (pos (k * (q + 1)))
by_negative k q = pos-*ℤ-negsuc k q ∙ ap (λ n. neg_ℤ (pos (k * n))) (sym (one_after q))

both_negative : (k q : ℕ) → neg_ℤ (pos k) *ℤ negsuc q ≡ pos (k * (q + 1))
both_negative k q =
    *ℤ-negsuc (neg_ℤ (pos k)) q
    ∙ (ap neg_ℤ (times_negative k (suc q))
    ∙ (neg_ℤ-neg_ℤ (pos (k * suc q))
    ∙ ap (λ n. pos (k * n)) (sym (one_after q))))

-- sizes that are equal are as near
to_near : (m : Rounding) (p q k : ℤ) (P Q K E : ℕ) → P ≡ unsigned_abs p → Q ≡ unsigned_abs q → K ≡ unsigned_abs k → E ≡ unsigned_abs (p -ℤ (k *ℤ q)) → IsNearBySizes m P Q K (K * Q) E → IsNear m p q k
to_near m p q k P Q K E ep eq ek ee h =
    let product : K * Q ≡ unsigned_abs (k *ℤ q) = ap (λ n. n * Q) ek ∙ (ap (λ n. unsigned_abs k * n) eq ∙ sym (unsigned_abs-mul k q)) in
    let at_p : ℕ → Type 0 = λ n. IsNearBySizes m n Q K (K * Q) E in
    let at_q : ℕ → Type 0 = λ n. IsNearBySizes m (unsigned_abs p) n K (K * Q) E in
    let at_k : ℕ → Type 0 = λ n. IsNearBySizes m (unsigned_abs p) (unsigned_abs q) n (K * Q) E in
    let at_product : ℕ → Type 0 = λ n. IsNearBySizes m (unsigned_abs p) (unsigned_abs q) (unsigned_abs k) n E in
    let at_error : ℕ → Type 0 = λ n. IsNearBySizes m (unsigned_abs p) (unsigned_abs q) (unsigned_abs k) (unsigned_abs (k *ℤ q)) n in
    subst at_error ee (subst at_product product (subst at_k ek (subst at_q eq (subst at_p ep h))))

-- ---- the law
pub rounded_near : (m : Rounding) (p q : ℤ) → 0 < unsigned_abs q → IsNear m p q (rounded_quotient m p q)
rounded_near m (pos p) (pos q) h =
    let s = near_size m p q h in
    let k = rounded_size m p q in
    to_near m (pos p) (pos q) (pos k) p q k s.error refl refl refl (sym (far_up p (k * q) s.error s.apart)) s.near
rounded_near m (pos p) (negsuc q) h =
    let s = near_size m p (q + 1) (omega arith) in
    let k = rounded_size m p (q + 1) in
    let away = far_up p (k * (q + 1)) s.error s.apart in
    to_near m (pos p) (negsuc q) (neg_ℤ (pos k)) p (q + 1) k s.error refl (one_after q) (sym (size_turned k))
    (sym (ap (λ x. unsigned_abs (pos p -ℤ x)) (both_negative k q) ∙ away)) s.near
rounded_near m (negsuc p) (pos q) h =
    let s = near_size m (p + 1) q h in
    let k = rounded_size m (p + 1) q in
    let away = far_down p (k * q) s.error s.apart in
    to_near m (negsuc p) (pos q) (neg_ℤ (pos k)) (p + 1) q k s.error (one_after p) refl (sym (size_turned k))
    (sym (ap (λ x. unsigned_abs (negsuc p -ℤ x)) (times_negative k q) ∙ away)) s.near
rounded_near m (negsuc p) (negsuc q) h =
    let s = near_size m (p + 1) (q + 1) (omega arith) in
    let k = rounded_size m (p + 1) (q + 1) in
    let away = far_down p (k * (q + 1)) s.error s.apart in
    to_near m (negsuc p) (negsuc q) (pos k) (p + 1) (q + 1) k s.error (one_after p) (one_after q) refl
    (sym (ap (λ x. unsigned_abs (negsuc p -ℤ x)) (by_negative k q) ∙ away)) s.near

-- ---- the sign turns with the dividend
pub nothing_rounded : (m : Rounding) (q : ℕ) → 0 < q → rounded_size m 0 q ≡ 0
nothing_rounded m q h = omega (arith, rounded_size_within m 0 q 0 h (omega arith))

pub rounded_odd : (m : Rounding) (p q : ℤ) → 0 < unsigned_abs q → rounded_quotient m (neg_ℤ p) q ≡ neg_ℤ (rounded_quotient m p q)
rounded_odd m (pos zero) (pos q) h =
    let none = nothing_rounded m q h in
    ap pos none ∙ ap (λ n. neg_ℤ (pos n)) (sym none)
rounded_odd m (pos zero) (negsuc q) h =
    let none = nothing_rounded m (q + 1) (omega arith) in
    ap (λ n. neg_ℤ (pos n)) none ∙ ap (λ n. neg_ℤ (neg_ℤ (pos n))) (sym none)
rounded_odd m (pos (suc p)) (pos q) h = ap (λ n. neg_ℤ (pos (rounded_size m n q))) (one_after p)
rounded_odd m (pos (suc p)) (negsuc q) h =
    ap (λ n. pos (rounded_size m n (q + 1))) (one_after p) ∙ sym (neg_ℤ-neg_ℤ (pos (rounded_size m (suc p) (q + 1))))
rounded_odd m (negsuc p) (pos q) h =
    ap (λ n. pos (rounded_size m n q)) (sym (one_after p)) ∙ sym (neg_ℤ-neg_ℤ (pos (rounded_size m (p + 1) q)))
rounded_odd m (negsuc p) (negsuc q) h = ap (λ n. neg_ℤ (pos (rounded_size m n (q + 1)))) (sym (one_after p))
