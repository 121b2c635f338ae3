-- The numbers that digits write.
use Rattle.std.proofs.Common.{ℕ, zero, suc, ◌+◌, ◌-◌, ◌*◌, ◌^◌, ◌<◌, ◌≤◌, ◌≡◌, true, List, [], ◌∷◌, ◌++◌, length, drop, take, get_or, refl, ap, arith, sym, ◌∙◌, drop-cons, add-one, pow-suc}
use Rattle.std.specs.Prelude.{IsTrue, ◌&&◌}
use Rattle.std.specs.Char.{is_ascii_digit, digit_value}
use Rattle.std.specs.List.{list_all}
use Rattle.std.specs.Str.Parse.{digits_value, digits_value_after, AllDigits}
use Rattle.std.proofs.Math.Nat.{pow-le-pow_right}
use Rattle.std.proofs.lemmas.Int.Digits.{digits_value-lt}
use Rattle.std.proofs.lemmas.List.Recursion.{and_at}
use Rattle.std.proofs.lemmas.Str.Parse.{numerals_by_value, tells_all_ascii_digits}
use Rattle.std.specs.Cmp.Derive.{both_true}
use Rattle.std.specs.Str.{all_ascii_digits}
use Rattle.std.proofs.lemmas.Bool.{and_parts}

-- more digits make no number smaller
pub value_after-grows : (n : ℕ) (ds : List ℕ) → n ≤ digits_value_after 10 n ds
value_after-grows n [] = omega arith
value_after-grows n (d ∷ ds) = omega (arith, value_after-grows (n * 10 + digit_value d) ds)

-- a digit in a text of digits
pub digit_in : (ds : List ℕ) (i : ℕ) → IsTrue (all_ascii_digits ds) → i < length ds → (48 ≤ get_or ds i 0) × (get_or ds i 0 ≤ 57)
digit_in ds i h lt =
    let one : is_ascii_digit (get_or ds i 0) ≡ true = and_at all_ascii_digits is_ascii_digit refl (λ _ _. refl) ds i 0 lt h in
    grind arith

-- what a digit is worth
pub digit_value_is : (d : ℕ) → 48 ≤ d → d ≤ 57 → digit_value d ≡ d - 48
digit_value_is d low high = grind arith

-- the number after one more digit
pub value_after-step : (n : ℕ) (ds : List ℕ) (i : ℕ) → IsTrue (all_ascii_digits ds) → i < length ds → digits_value_after 10 (n * 10 + (get_or ds i 0 - 48)) (drop (i + 1) ds) ≡ digits_value_after 10 n (drop i ds)
value_after-step n ds i h lt =
    let d = digit_in ds i h lt in
    let first : drop i ds ≡ (get_or ds i 0 ∷ drop (i + 1) ds) = rw (add-one, drop-cons ds i 0) in
    let worth = digit_value_is (get_or ds i 0) d.0 d.1 in
    sym (ap (digits_value_after 10 n) first ∙ ap (λ v. digits_value_after 10 (n * 10 + v) (drop (i + 1) ds)) worth)

-- a number that is too large after one more digit stays so
pub value_after-at_least : (n : ℕ) (ds : List ℕ) (i bound total : ℕ) → IsTrue (all_ascii_digits ds) → i < length ds → digits_value_after 10 n (drop i ds) ≡ total → bound ≤ n * 10 + (get_or ds i 0 - 48) → bound ≤ total
value_after-at_least n ds i bound total h lt e large =
    let step = value_after-step n ds i h lt in
    omega (arith, step, value_after-grows (n * 10 + (get_or ds i 0 - 48)) (drop (i + 1) ds))

-- the two words for a text of digits
pub all_digits : (ds : List ℕ) → IsTrue (all_ascii_digits ds) → AllDigits 10 ds
all_digits ds h = (numerals_by_value (λ t. all_ascii_digits t ≡ true) tells_all_ascii_digits).to ds h

-- a number of so many digits
pub value-lt : (ds : List ℕ) → IsTrue (all_ascii_digits ds) → digits_value 10 ds < 10 ^ length ds
value-lt ds h = digits_value-lt 10 ds (all_digits ds h)

-- the digits behind the first
pub digits_tail : (d : ℕ) (ds : List ℕ) → IsTrue (all_ascii_digits (d ∷ ds)) → IsTrue (all_ascii_digits ds)
digits_tail d ds h = (and_parts (is_ascii_digit d) (all_ascii_digits ds) h).1

pub all_ascii_digits-append : (xs ys : List ℕ) → IsTrue (all_ascii_digits xs) → IsTrue (all_ascii_digits ys) → IsTrue (all_ascii_digits (xs ++ ys))
all_ascii_digits-append [] ys h k = k
all_ascii_digits-append (x ∷ xs) ys h k =
    let parts = and_parts (is_ascii_digit x) (all_ascii_digits xs) h in
    both_true parts.0 (all_ascii_digits-append xs ys parts.1 k)

-- digits behind digits
pub value_after-append : (n : ℕ) (xs ys : List ℕ) → digits_value_after 10 n (xs ++ ys) ≡ digits_value_after 10 (digits_value_after 10 n xs) ys
value_after-append n [] ys = refl
value_after-append n (x ∷ xs) ys = value_after-append (n * 10 + digit_value x) xs ys

placed : (n d p v : ℕ) → (n * 10 + d) * p + v ≡ n * (p * 10) + (d * p + v)
placed n d p v = omega arith

value_one : (d : ℕ) (ds : List ℕ) → digits_value 10 (d ∷ ds) ≡ digits_value_after 10 (digit_value d) ds
value_one d ds = let e : 0 * 10 + digit_value d ≡ digit_value d = omega arith in ap (λ v. digits_value_after 10 v ds) e

-- digits behind a number move it to the left
pub value_after-split : (n : ℕ) (ds : List ℕ) → digits_value_after 10 n ds ≡ n * 10 ^ length ds + digits_value 10 ds
value_after-split n [] = omega arith
value_after-split n (d ∷ ds) =
    let power : 10 ^ length ds * 10 ≡ 10 ^ length (d ∷ ds) = sym (pow-suc 10 (length ds)) in
    value_after-split (n * 10 + digit_value d) ds
    ∙ placed n (digit_value d) (10 ^ length ds) (digits_value 10 ds)
    ∙ ap (λ p. n * p + (digit_value d * 10 ^ length ds + digits_value 10 ds)) power
    ∙ ap (λ v. n * 10 ^ length (d ∷ ds) + v) (sym (value_after-split (digit_value d) ds) ∙ sym (value_one d ds))

pub value-append : (xs ys : List ℕ) → digits_value 10 (xs ++ ys) ≡ digits_value 10 xs * 10 ^ length ys + digits_value 10 ys
value-append xs ys = value_after-append 0 xs ys ∙ value_after-split (digits_value 10 xs) ys

-- the first digit has the highest place
pub value-cons : (d : ℕ) (ds : List ℕ) → IsTrue (all_ascii_digits (d ∷ ds)) → digits_value 10 (d ∷ ds) ≡ (d - 48) * 10 ^ length ds + digits_value 10 ds
value-cons d ds h =
    let first = digit_in (d ∷ ds) 0 h (omega arith) in
    value_one d ds ∙ value_after-split (digit_value d) ds
    ∙ ap (λ v. v * 10 ^ length ds + digits_value 10 ds) (omega (arith, digit_value_is d first.0 first.1))

-- three digits
pub value_of_three : (ds : List ℕ) → IsTrue (all_ascii_digits ds) → length ds ≤ 3 → digits_value 10 ds < 1000
value_of_three ds h short = omega (arith, value-lt ds h, pow-le-pow_right {n = 10} (omega arith) {i = length ds} {j = 3} short)

pub ruleset digit_facts = (value_after-grows, digit_in, value_after-step)

pub ruleset joined_digits = (value_after-grows, value_after-append)

-- the two tests of a text of digits
pub all_are_digits : (ds : List ℕ) → list_all is_ascii_digit ds ≡ all_ascii_digits ds
all_are_digits [] = refl
all_are_digits (d ∷ ds) = ap (λ b. is_ascii_digit d && b) (all_are_digits ds)

-- a part of a text of digits
pub digits_taken : (i : ℕ) (ds : List ℕ) → IsTrue (all_ascii_digits ds) → IsTrue (all_ascii_digits (take i ds))
digits_taken zero ds h = refl
digits_taken (suc i) [] h = refl
digits_taken (suc i) (d ∷ ds) h =
    let parts = and_parts (is_ascii_digit d) (all_ascii_digits ds) h in
    both_true parts.0 (digits_taken i ds parts.1)

pub digits_dropped : (i : ℕ) (ds : List ℕ) → IsTrue (all_ascii_digits ds) → IsTrue (all_ascii_digits (drop i ds))
digits_dropped zero ds h = h
digits_dropped (suc i) [] h = refl
digits_dropped (suc i) (d ∷ ds) h = digits_dropped i ds (digits_tail d ds h)

pub ruleset digit_parts = (digits_taken, digits_dropped)
