-- Numbers of digits, divided by powers of ten.
use Rattle.std.proofs.Common.{ℕ, ◌≡◌, ◌+◌, ◌*◌, ◌/◌, ◌%◌, ◌^◌, ◌<◌, ◌≤◌, true, false, List, ◌++◌, inl, inr, length, ap, sym, subst, ◌∙◌, arith, add-zero, mul_assoc, ℤ, pos, negsuc, ◌+ℤ◌, ◌-ℤ◌, ◌<ℤ◌, ◌≤ℤ◌, Option, Some, None}
use Rattle.std.specs.Prelude.{IsTrue, MatchOption, unsigned_abs}
use Rattle.std.proofs.lemmas.Int.{ints}
use Rattle.std.specs.Str.Parse.{digits_value}
use Rattle.std.proofs.Math.Nat.{one-le-pow, pow-le-pow_right, mul-lt-mul_of_pos_right, mul-div-mul_right, mul-le-mul_right, le-mul_of_pos_right}
use Rattle.std.proofs.lemmas.Bool.{cases_order, ltb-true, ltb-false}
use Rattle.std.proofs.lemmas.Nat.{div-mul-add, div-add-mod', pow-add}
use Rattle.vtl_decimal.specs.declared.quotient.Rest.TheVariants.{Zero, BelowHalf}
use Rattle.vtl_decimal.specs.declared.quotient.Divided.{Divided}
use Rattle.vtl_decimal.specs.Divided.{place_of_rest, IsDivided, has_nonzero}
use Rattle.std.specs.Str.{all_ascii_digits}
use Rattle.vtl_decimal.specs.Numeral.{raised, lowered}
use Rattle.vtl_decimal.proofs.DigitLemmas.{value-append, value-lt}
use Rattle.vtl_decimal.proofs.RestLemmas.{below_half, at_half, above_half, has_nonzero-is}
use Rattle.vtl_decimal.proofs.RoundingLemmas.{zero_or_more}

-- ---- quotient and rest

rest-mul-add : (z q r : ℕ) → r < q → (z * q + r) % q ≡ r
rest-mul-add z q r small =
    let whole = div-mul-add z q r small in
    let parts = div-add-mod' (z * q + r) q in
    let same : (z * q + r) / q * q ≡ z * q = ap (λ v. v * q) whole in
    omega (arith, parts, same)

-- a number with its quotient and rest
pub divided : (z q r : ℕ) (d : Divided) → r < q → d.units ≡ z → d.rest ≡ place_of_rest r q → z < 10 ^ 18 → IsDivided (z * q + r) q d
divided z q r d small units rest bound = record {
  units = units ∙ sym (div-mul-add z q r small);
  rest = rest ∙ ap (λ v. place_of_rest v q) (sym (rest-mul-add z q r small));
  small = omega (arith, units);
}

zero_times : (c : ℕ) → 0 * c ≡ 0
zero_times c = omega arith

-- the rest stands where it stood, if both it and the divisor are a number of times as large
place_of_rest-mul : (r q c : ℕ) → 0 < c → place_of_rest (r * c) (q * c) ≡ place_of_rest r q
place_of_rest-mul r q c h =
    elim (zero_or_more r) [
      | inl none ↦
          let nothing : r * c ≡ 0 = ap (λ v. v * c) none ∙ zero_times c in
          ap (λ v. place_of_rest v (q * c)) nothing ∙ ap (λ v. place_of_rest v q) (sym none)
      | inr some ↦
          let some' : 0 < r * c = omega (arith, zero_times c, mul-lt-mul_of_pos_right {m = 0} {n = r} {k = c} some h) in
          elim (cases_order (2 * r) q) [
            | inl same ↦ at_half (r * c) (q * c) some' (omega (arith, ap (λ v. v * c) same)) ∙ sym (at_half r q some same)
            | inr other ↦ elim other [
              | inl low ↦ below_half (r * c) (q * c) some' (omega (arith, mul-lt-mul_of_pos_right {m = 2 * r} {n = q} {k = c} low h)) ∙ sym (below_half r q some low)
              | inr high ↦ above_half (r * c) (q * c) (omega (arith, mul-lt-mul_of_pos_right {m = q} {n = 2 * r} {k = c} high h)) ∙ sym (above_half r q high)
            ]
          ]
    ]

-- ---- the digits cut in two

-- the quotient is the front, and the rest stands where the back does
pub cut_divides : (xs ys : List ℕ) (d : Divided) → IsTrue (all_ascii_digits xs) → IsTrue (all_ascii_digits ys) → d.units ≡ digits_value 10 xs → d.units < 10 ^ 18 → d.rest ≡ place_of_rest (digits_value 10 ys) (10 ^ length ys) → IsDivided (digits_value 10 (xs ++ ys)) (10 ^ length ys) d
cut_divides xs ys d h k units bound rest =
    rw (value-append xs ys)
    (divided (digits_value 10 xs) (10 ^ length ys) (digits_value 10 ys) d (value-lt ys k) units rest (omega (arith, units)))

pub cut_too_large : (xs ys : List ℕ) → IsTrue (all_ascii_digits ys) → 10 ^ 18 ≤ digits_value 10 xs → 10 ^ 18 ≤ digits_value 10 (xs ++ ys) / 10 ^ length ys
cut_too_large xs ys k large =
    let whole = ap (λ v. v / 10 ^ length ys) (value-append xs ys) ∙ div-mul-add (digits_value 10 xs) (10 ^ length ys) (digits_value 10 ys) (value-lt ys k) in
    omega (arith, whole)

-- ---- fewer digits than places

ten_times_below : (ds : List ℕ) (n : ℕ) → IsTrue (all_ascii_digits ds) → length ds < n → digits_value 10 ds * 10 < 10 ^ n
ten_times_below ds n h short =
    let most = pow-le-pow_right {n = 10} (omega arith) {i = length ds + 1} {j = n} (omega arith) in
    let step : 10 ^ (length ds + 1) ≡ 10 ^ length ds * 10 = pow-add 10 (length ds) 1 in
    omega (arith, most, step, value-lt ds h)

divided_below : (q v : ℕ) (d : Divided) → v < q → d.units ≡ 0 → d.rest ≡ place_of_rest v q → IsDivided v q d
divided_below q v d small units rest =
    let same : 0 * q + v ≡ v = omega arith in
    let P : ℕ → Type 0 = λ p. IsDivided p q d in
    subst P same (divided 0 q v d small units rest (omega arith))

pub below_one_nonzero : (ds : List ℕ) (n : ℕ) (d : Divided) → IsTrue (all_ascii_digits ds) → length ds < n → has_nonzero ds ≡ true → d.units ≡ 0 → d.rest ≡ BelowHalf → IsDivided (digits_value 10 ds) (10 ^ n) d
below_one_nonzero ds n d h short some units rest =
    let v = digits_value 10 ds in
    let low = ten_times_below ds n h short in
    let more : 0 < v = ltb-true 0 v (sym (has_nonzero-is ds h) ∙ some) in
    divided_below (10 ^ n) v d (omega arith) units (rest ∙ sym (below_half v (10 ^ n) more (omega arith)))

pub below_one_zero : (ds : List ℕ) (n : ℕ) (d : Divided) → IsTrue (all_ascii_digits ds) → length ds < n → has_nonzero ds ≡ false → d.units ≡ 0 → d.rest ≡ Zero → IsDivided (digits_value 10 ds) (10 ^ n) d
below_one_zero ds n d h short none units rest =
    let v = digits_value 10 ds in
    let low = ten_times_below ds n h short in
    let nothing : v ≤ 0 = ltb-false 0 v (sym (has_nonzero-is ds h) ∙ none) in
    let is_zero : v ≡ 0 = omega arith in
    divided_below (10 ^ n) v d (omega arith) units (rest ∙ ap (λ x. place_of_rest x (10 ^ n)) (sym is_zero))

-- ---- powers of ten on both sides

regroup : (z r q c : ℕ) → z * (q * c) + r * c ≡ (z * q + r) * c
regroup z r q c = omega arith

pub divided-mul : (p q c : ℕ) (d : Divided) → 0 < q → 0 < c → IsDivided p q d → IsDivided (p * c) (q * c) d
divided-mul p q c d some more h =
    let parts : p / q * q + p % q ≡ p = div-add-mod' p q in
    let small : p % q < q = omega arith in
    let low : p % q * c < q * c = mul-lt-mul_of_pos_right small more in
    let whole : p / q * (q * c) + p % q * c ≡ p * c = regroup (p / q) (p % q) q c ∙ ap (λ v. v * c) parts in
    let P : ℕ → Type 0 = λ v. IsDivided v (q * c) d in
    subst P whole (divided (p / q) (q * c) (p % q * c) d low h.units (h.rest ∙ sym (place_of_rest-mul (p % q) q c more)) (omega (arith, h.units, h.small)))

by_option : (p q c : ℕ) (o : Option Divided) → 0 < q → 0 < c → MatchOption o (10 ^ 18 ≤ p / q) (IsDivided p q) → MatchOption o (10 ^ 18 ≤ p * c / (q * c)) (IsDivided (p * c) (q * c))
by_option p q c (Some d) some more h = divided-mul p q c d some more h
by_option p q c None some more h = omega (arith, mul-div-mul_right {m = c} p q more)

-- where the power above the line is the smaller one
pub scaled_down : (p x y k : ℕ) (o : Option Divided) → k + x ≡ y → MatchOption o (10 ^ 18 ≤ p / 10 ^ k) (IsDivided p (10 ^ k)) → MatchOption o (10 ^ 18 ≤ p * 10 ^ x / 10 ^ y) (IsDivided (p * 10 ^ x) (10 ^ y))
scaled_down p x y k o e h =
    let some : 0 < 10 ^ k = one-le-pow k 10 (omega arith) in
    let more : 0 < 10 ^ x = one-le-pow x 10 (omega arith) in
    let power : 10 ^ k * 10 ^ x ≡ 10 ^ y = sym (pow-add 10 k x) ∙ ap (λ n. 10 ^ n) e in
    let P : ℕ → Type 0 = λ q. MatchOption o (10 ^ 18 ≤ p * 10 ^ x / q) (IsDivided (p * 10 ^ x) q) in
    subst P power (by_option p (10 ^ k) (10 ^ x) o some more h)

-- where it is the larger one
pub scaled_up : (p x y k : ℕ) (d : Divided) → k + y ≡ x → d.units ≡ p * 10 ^ k → d.units < 10 ^ 18 → d.rest ≡ Zero → IsDivided (p * 10 ^ x) (10 ^ y) d
scaled_up p x y k d e units bound rest =
    let some : 0 < 10 ^ y = one-le-pow y 10 (omega arith) in
    let power : 10 ^ k * 10 ^ y ≡ 10 ^ x = sym (pow-add 10 k y) ∙ ap (λ n. 10 ^ n) e in
    let whole : p * 10 ^ k * 10 ^ y + 0 ≡ p * 10 ^ x = add-zero (p * 10 ^ k * 10 ^ y) ∙ mul_assoc p (10 ^ k) (10 ^ y) ∙ ap (λ v. p * v) power in
    let P : ℕ → Type 0 = λ v. IsDivided v (10 ^ y) d in
    subst P whole (divided (p * 10 ^ k) (10 ^ y) 0 d some units rest (omega (arith, units)))

pub scaled_too_large : (p x y k : ℕ) → k + y ≡ x → 10 ^ 18 ≤ p * 10 ^ k → 10 ^ 18 ≤ p * 10 ^ x / 10 ^ y
scaled_too_large p x y k e large =
    let some : 0 < 10 ^ y = one-le-pow y 10 (omega arith) in
    let power : 10 ^ k * 10 ^ y ≡ 10 ^ x = sym (pow-add 10 k y) ∙ ap (λ n. 10 ^ n) e in
    let whole : p * 10 ^ k * 10 ^ y + 0 ≡ p * 10 ^ x = add-zero (p * 10 ^ k * 10 ^ y) ∙ mul_assoc p (10 ^ k) (10 ^ y) ∙ ap (λ v. p * v) power in
    let quotient : p * 10 ^ x / 10 ^ y ≡ p * 10 ^ k = ap (λ v. v / 10 ^ y) (sym whole) ∙ div-mul-add (p * 10 ^ k) (10 ^ y) 0 some in
    omega (arith, quotient)

-- zeros behind a number
pub zeros_grow : (v z : ℕ) → v ≤ v * 10 ^ z
zeros_grow v z = le-mul_of_pos_right v (one-le-pow z 10 (omega arith))

pub zeros_too_many : (v z : ℕ) → 0 < v → 18 < z → 10 ^ 18 ≤ v * 10 ^ z
zeros_too_many v z some many =
    let least = mul-le-mul_right {m = 1} {n = v} (10 ^ z) some in
    omega (arith, least, pow-le-pow_right {n = 10} (omega arith) {i = 18} {j = z} (omega arith))

-- ---- how far the digits move
pub moved_right : (s f : ℕ) (e shift : ℤ) → shift ≡ (pos s +ℤ e) -ℤ pos f → shift <ℤ pos 0 → unsigned_abs shift + (s + raised e) ≡ f + lowered e
moved_right s f (pos a) shift h low = omega (arith, ints)
moved_right s f (negsuc a) shift h low = omega (arith, ints)

pub moved_left : (s f : ℕ) (e shift : ℤ) → shift ≡ (pos s +ℤ e) -ℤ pos f → pos 0 ≤ℤ shift → unsigned_abs shift + (f + lowered e) ≡ s + raised e
moved_left s f (pos a) shift h high = omega (arith, ints)
moved_left s f (negsuc a) shift h high = omega (arith, ints)
