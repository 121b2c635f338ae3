-- The floor and the ceiling are the nearest whole numbers below and above.
use Rattle.std.proofs.Common.{ℕ, suc, ℤ, pos, negsuc, neg_ℤ, ◌+ℤ◌, ◌-ℤ◌, ◌*ℤ◌, ◌≤ℤ◌, ◌<ℤ◌, ◌≡◌, ◌+◌, ◌*◌, ◌/◌, ◌%◌, ◌<◌, Result, ap, sym, subst, ◌∙◌, arith}
use Rattle.std.specs.Prelude.{◌^◌, ◌-◌, unsigned_abs, nat_lt, IfOk}
use Rattle.vtl_decimal.specs.declared.number.Fault.{Fault}
use Rattle.vtl_decimal.specs.Range.{fit_integer}
use Rattle.vtl_decimal.proofs.OperatorLemmas.{fits}
use Rattle.std.proofs.lemmas.Int.{ints}
use Rattle.std.proofs.lemmas.Nat.{div-add-mod'}
use Rattle.std.proofs.Math.IntN.{negsuc-*ℤ-pos, neg_ℤ-neg_ℤ}
use Rattle.std.proofs.Math.Nat.{one-le-pow}
use Rattle.vtl_decimal.specs.Rounding.{floor_quotient, ceil_quotient, IsFloor, IsCeil}
use Rattle.vtl_decimal.proofs.NearLemmas.{times_negative}

-- z times q, and one more time, enclose z * q + r
positive_floor : (z q r : ℕ) → r < q → IsFloor (pos (z * q + r)) q (pos z)
positive_floor z q r small =
    let next : (z + 1) * q ≡ z * q + q = omega arith in
    (omega (arith, ints), omega (arith, ints, next))

negative_floor : (z q r : ℕ) → r < q → IsFloor (negsuc (z * q + r)) q (negsuc z)
negative_floor z q r small =
    let size : suc z * q ≡ z * q + q = omega arith in
    let up : negsuc z +ℤ pos 1 ≡ neg_ℤ (pos z) = omega (arith, ints) in
    let next : (negsuc z +ℤ pos 1) *ℤ pos q ≡ neg_ℤ (pos (z * q)) = ap (λ x. x *ℤ pos q) up ∙ times_negative z q in
    let Above : ℤ → Type 0 = λ x. negsuc (z * q + r) <ℤ x in
    (subst (λ x. x ≤ℤ negsuc (z * q + r)) (sym (negsuc-*ℤ-pos z q)) (omega (arith, ints, size)), subst Above (sym next) (omega (arith, ints)))

pub floor_is : (p : ℤ) (q : ℕ) → 0 < q → IsFloor p q (floor_quotient p q)
floor_is (pos p) q h =
    let P : ℕ → Type 0 = λ n. IsFloor (pos n) q (pos (p / q)) in
    let small : p % q < q = omega arith in
    subst P (div-add-mod' p q) (positive_floor (p / q) q (p % q) small)
floor_is (negsuc p) q h =
    let P : ℕ → Type 0 = λ n. IsFloor (negsuc n) q (negsuc (p / q)) in
    let small : p % q < q = omega arith in
    subst P (div-add-mod' p q) (negative_floor (p / q) q (p % q) small)

turned : (f : ℤ) (q : ℕ) → neg_ℤ f *ℤ pos q ≡ neg_ℤ (f *ℤ pos q)
turned (pos k) q = times_negative k q
turned (negsuc k) q =
    sym (neg_ℤ-neg_ℤ (pos (suc k * q))) ∙ ap neg_ℤ (sym (negsuc-*ℤ-pos k q))

before : (p x : ℤ) → neg_ℤ p <ℤ x → neg_ℤ x <ℤ p
before p x h = omega (arith, ints)

behind : (p x : ℤ) → x ≤ℤ neg_ℤ p → p ≤ℤ neg_ℤ x
behind p x h = omega (arith, ints)

pub ceil_is : (p : ℤ) (q : ℕ) → 0 < q → IsCeil p q (ceil_quotient p q)
ceil_is p q h =
    let f = floor_quotient (neg_ℤ p) q in
    let below = floor_is (neg_ℤ p) q h in
    let same : neg_ℤ f *ℤ pos q ≡ neg_ℤ (f *ℤ pos q) = turned f q in
    let down : neg_ℤ f -ℤ pos 1 ≡ neg_ℤ (f +ℤ pos 1) = omega (arith, ints) in
    let next : (neg_ℤ f -ℤ pos 1) *ℤ pos q ≡ neg_ℤ ((f +ℤ pos 1) *ℤ pos q) = ap (λ x. x *ℤ pos q) down ∙ turned (f +ℤ pos 1) q in
    let Below : ℤ → Type 0 = λ x. x <ℤ p in
    let Above : ℤ → Type 0 = λ x. p ≤ℤ x in
    (subst Below (sym next) (before p ((f +ℤ pos 1) *ℤ pos q) below.1), subst Above (sym same) (behind p (f *ℤ pos q) below.0))

-- the same of what fits
when_fit : (P : ℤ → Type 0) (s : ℕ) (n : ℤ) → P n → IfOk (fit_integer s n) P
when_fit P s n h = fits P n (nat_lt (unsigned_abs n) (10 ^ (18 - s))) h

pub floor_fit : (s : ℕ) (a : ℤ) (r : Result ℤ Fault) → r ≡ fit_integer s (floor_quotient a (10 ^ s)) → IfOk r (IsFloor a (10 ^ s))
floor_fit s a r e =
    let P : Result ℤ Fault → Type 0 = λ x. IfOk x (IsFloor a (10 ^ s)) in
    subst P (sym e) (when_fit (IsFloor a (10 ^ s)) s (floor_quotient a (10 ^ s)) (floor_is a (10 ^ s) (one-le-pow s 10 (omega arith))))

pub ceil_fit : (s : ℕ) (a : ℤ) (r : Result ℤ Fault) → r ≡ fit_integer s (ceil_quotient a (10 ^ s)) → IfOk r (IsCeil a (10 ^ s))
ceil_fit s a r e =
    let P : Result ℤ Fault → Type 0 = λ x. IfOk x (IsCeil a (10 ^ s)) in
    subst P (sym e) (when_fit (IsCeil a (10 ^ s)) s (ceil_quotient a (10 ^ s)) (ceil_is a (10 ^ s) (one-le-pow s 10 (omega arith))))
