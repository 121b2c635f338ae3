-- Numbers in digits: how they are read from the left, how large they are, and that digits of a number read as it.
use Rattle.std.proofs.Common.{◌≡◌, ℕ, suc, ◌+◌, ◌-◌, ◌*◌, ◌/◌, ◌%◌, ◌^◌, ◌<◌, ◌≤◌, Bool, true, false, cond, ◌&&◌, List, [], ◌∷◌, length, Option, None, Some, add-one, lit<, refl, sym, ap, ◌∙◌, arith}
use Rattle.std.specs.Char.{is_ascii_digit}
use Rattle.std.specs.Str.{all_ascii_digits, IsAscii}
use Rattle.std.proofs.lemmas.Str.Ascii.{IsAscii-nil, IsAscii-cons}
use Rattle.std.proofs.Math.Nat.{pow-suc, pow-le-pow_right}
use Rattle.std.proofs.lemmas.Bool.{and_parts}
use Rattle.std.proofs.lemmas.Bool.Decides.{nat_tests}
use Rattle.std.specs.Str.Parse.{digits_value}
use Rattle.std.proofs.lemmas.Str.Parse.{numerals_by_weight, tells_all_ascii_digits}
use Rattle.vtl_time.specs.Numerals.{number_in_digits, two_digits, four_digits}

-- what digits stand for, each by its place
abbrev value_of : List ℕ → ℕ
value_of [] = 0
value_of (d ∷ ds) = (d - 48) * 10 ^ length ds + value_of ds

-- the digits read one by one, after the number so far
abbrev pub number_from : ℕ → List ℕ → Option ℕ
number_from n [] = Some n
number_from n (d ∷ ds) = cond (is_ascii_digit d) (number_from (n * 10 + (d - 48)) ds) None

-- a choice that gave a value was made for a true test
pub chosen : {X : Type 0} (b : Bool) (x y : X) → cond b (Some x) None ≡ Some y → b ≡ true
chosen true x y h = refl
chosen false x y h = cc

digit_below : (c : ℕ) → is_ascii_digit c ≡ true → c < 128
digit_below c h = grind (arith, nat_tests)

both_digits : (b a : Bool) (x y : ℕ) (r : Option ℕ) → r ≡ cond a (Some x) None → x ≡ y → cond b r None ≡ cond (b && a) (Some y) None
both_digits true a x y r h e = h ∙ ap (λ z. cond a (Some z) None) e
both_digits false a x y r h e = refl

number_from_is : (n : ℕ) (ds : List ℕ) → number_from n ds ≡ cond (all_ascii_digits ds) (Some (n * 10 ^ length ds + value_of ds)) None
number_from_is n [] = ap Some (omega arith)
number_from_is n (d ∷ ds) =
    let power : 10 ^ suc (length ds) ≡ 10 ^ length ds * 10 = pow-suc 10 (length ds) in
    let sum : (n * 10 + (d - 48)) * 10 ^ length ds + value_of ds ≡ n * 10 ^ suc (length ds) + ((d - 48) * 10 ^ length ds + value_of ds) = rw power (grind arith) in
    both_digits (is_ascii_digit d) (all_ascii_digits ds) _ _ _ (number_from_is (n * 10 + (d - 48)) ds) sum

-- the same, as std weighs digits
same_value : (ds : List ℕ) → all_ascii_digits ds ≡ true → value_of ds ≡ digits_value 10 ds
same_value ds h =
    let own = numerals_by_weight (λ t. all_ascii_digits t ≡ true) tells_all_ascii_digits value_of (record { empty = refl; more = λ c cs k. refl }) in
    own.same ds (own.to ds h)

when_chosen : (b : Bool) (x y : ℕ) → (b ≡ true → x ≡ y) → cond b (Some x) None ≡ cond b (Some y) None
when_chosen true x y e = ap Some (e refl)
when_chosen false x y e = refl

weighed : (cs : List ℕ) → number_in_digits cs ≡ cond (all_ascii_digits cs) (Some (value_of cs)) None
unfolding number_in_digits
weighed cs = when_chosen (all_ascii_digits cs) (digits_value 10 cs) (value_of cs) (λ h. sym (same_value cs h))

pub number_in_digits-from : (ds : List ℕ) → number_in_digits ds ≡ number_from 0 ds
number_in_digits-from ds = weighed ds ∙ sym (number_from_is 0 ds ∙ ap (λ v. cond (all_ascii_digits ds) (Some v) None) (omega arith))

-- one digit more
pub digit_more : (v d i : ℕ) → v < 10 ^ i → d < 10 → v * 10 + d < 10 ^ (i + 1)
digit_more v d i below digit =
    let power : 10 ^ (i + 1) ≡ 10 ^ i * 10 = ap (λ k. 10 ^ k) (add-one i) ∙ pow-suc 10 i in
    omega arith

pub short_number : (v i : ℕ) → v < 10 ^ i → i ≤ 4 → v < 10000
short_number v i below short =
    let most : 10 ^ i ≤ 10 ^ 4 = pow-le-pow_right (lit< tt) short in
    omega arith

digit_is : (x : ℕ) → x < 10 → is_ascii_digit (48 + x) ≡ true
digit_is x below = grind (arith, nat_tests)

all_of_two : (a b : Bool) → a ≡ true → b ≡ true → a && (b && true) ≡ true
all_of_two a b p q = ap (λ k. k && (b && true)) p ∙ ap (λ k. k && true) q

all_of_four : (a b c d : Bool) → a ≡ true → b ≡ true → c ≡ true → d ≡ true → a && (b && (c && (d && true))) ≡ true
all_of_four a b c d p q r s = ap (λ k. k && (b && (c && (d && true)))) p ∙ ap (λ k. k && (c && (d && true))) q ∙ all_of_two c d r s

number_of_digits : (cs : List ℕ) (n : ℕ) → all_ascii_digits cs ≡ true → value_of cs ≡ n → number_in_digits cs ≡ Some n
number_of_digits cs n digits value = weighed cs ∙ ap (λ b. cond b (Some (value_of cs)) None) digits ∙ ap Some value

pub number_in_digits-two : (n : ℕ) → n < 100 → number_in_digits (two_digits n) ≡ Some n
number_in_digits-two n small =
    number_of_digits (two_digits n) n
    (all_of_two _ _ (digit_is (n / 10 % 10) (omega arith)) (digit_is (n % 10) (omega arith)))
    (omega arith)

pub number_in_digits-four : (n : ℕ) → n < 10000 → number_in_digits (four_digits n) ≡ Some n
number_in_digits-four n small =
    number_of_digits (four_digits n) n
    (all_of_four _ _ _ _ (digit_is (n / 1000 % 10) (omega arith)) (digit_is (n / 100 % 10) (omega arith)) (digit_is (n / 10 % 10) (omega arith)) (digit_is (n % 10) (omega arith)))
    (omega arith)

pub number_in_digits-one : (n : ℕ) → n < 10 → number_in_digits ((48 + n) ∷ []) ≡ Some n
number_in_digits-one n small = number_of_digits ((48 + n) ∷ []) n (ap (λ k. k && true) (digit_is n small)) (omega arith)

digits_ascii : (cs : List ℕ) → all_ascii_digits cs ≡ true → IsAscii cs
digits_ascii [] h = IsAscii-nil
digits_ascii (c ∷ cs) h =
    let parts = and_parts (is_ascii_digit c) (all_ascii_digits cs) h in
    IsAscii-cons c cs (digit_below c parts.0) (digits_ascii cs parts.1)

pub number_ascii : (cs : List ℕ) (n : ℕ) → number_in_digits cs ≡ Some n → IsAscii cs
number_ascii cs n h = digits_ascii cs (chosen (all_ascii_digits cs) (value_of cs) n (sym (weighed cs) ∙ h))

-- the digits of a number that was read are its digits
digit_range : (c : ℕ) → is_ascii_digit c ≡ true → (48 ≤ c) × (c ≤ 57)
digit_range c h = (grind (arith, nat_tests), grind (arith, nat_tests))

pub chosen_value : {X : Type 0} (b : Bool) (x y : X) → cond b (Some x) None ≡ Some y → x ≡ y
chosen_value true x y h = cc
chosen_value false x y h = cc

cons_same : (a b : ℕ) (xs ys : List ℕ) → a ≡ b → xs ≡ ys → a ∷ xs ≡ b ∷ ys
cons_same a b xs ys p q = ap (λ c. c ∷ xs) p ∙ ap (λ l. b ∷ l) q

pub one_digit_is : (cs : List ℕ) (n : ℕ) → length cs ≡ 1 → number_in_digits cs ≡ Some n → cs ≡ (48 + n) ∷ []
one_digit_is [] n size h = absurd (omega arith)
one_digit_is (a ∷ []) n size h =
    let digits = and_parts (is_ascii_digit a) true (chosen (all_ascii_digits (a ∷ [])) (value_of (a ∷ [])) n (sym (weighed (a ∷ [])) ∙ h)) in
    let value = chosen_value (all_ascii_digits (a ∷ [])) (value_of (a ∷ [])) n (sym (weighed (a ∷ [])) ∙ h) in
    cons_same a (48 + n) [] [] (omega (arith, digit_range a digits.0, value)) refl
one_digit_is (a ∷ b ∷ cs) n size h = absurd (omega arith)

pub two_digits_are : (cs : List ℕ) (n : ℕ) → length cs ≡ 2 → number_in_digits cs ≡ Some n → cs ≡ two_digits n
two_digits_are [] n size h = absurd (omega arith)
two_digits_are (a ∷ []) n size h = absurd (omega arith)
two_digits_are (a ∷ b ∷ []) n size h =
    let digits = and_parts (is_ascii_digit a) (is_ascii_digit b && true) (chosen (all_ascii_digits (a ∷ b ∷ [])) (value_of (a ∷ b ∷ [])) n (sym (weighed (a ∷ b ∷ [])) ∙ h)) in
    let last = and_parts (is_ascii_digit b) true digits.1 in
    let value = chosen_value (all_ascii_digits (a ∷ b ∷ [])) (value_of (a ∷ b ∷ [])) n (sym (weighed (a ∷ b ∷ [])) ∙ h) in
    let from_a = digit_range a digits.0 in
    let from_b = digit_range b last.0 in
    cons_same a (48 + n / 10 % 10) (b ∷ []) ((48 + n % 10) ∷ []) (omega arith) (cons_same b (48 + n % 10) [] [] (omega arith) refl)
two_digits_are (a ∷ b ∷ c ∷ cs) n size h = absurd (omega arith)

pub four_digits_are : (cs : List ℕ) (n : ℕ) → length cs ≡ 4 → number_in_digits cs ≡ Some n → cs ≡ four_digits n
four_digits_are [] n size h = absurd (omega arith)
four_digits_are (a ∷ []) n size h = absurd (omega arith)
four_digits_are (a ∷ b ∷ []) n size h = absurd (omega arith)
four_digits_are (a ∷ b ∷ c ∷ []) n size h = absurd (omega arith)
four_digits_are (a ∷ b ∷ c ∷ d ∷ []) n size h =
    let all = a ∷ b ∷ c ∷ d ∷ [] in
    let first = and_parts (is_ascii_digit a) (is_ascii_digit b && (is_ascii_digit c && (is_ascii_digit d && true))) (chosen (all_ascii_digits all) (value_of all) n (sym (weighed all) ∙ h)) in
    let second = and_parts (is_ascii_digit b) (is_ascii_digit c && (is_ascii_digit d && true)) first.1 in
    let third = and_parts (is_ascii_digit c) (is_ascii_digit d && true) second.1 in
    let fourth = and_parts (is_ascii_digit d) true third.1 in
    let value = chosen_value (all_ascii_digits all) (value_of all) n (sym (weighed all) ∙ h) in
    let from_a = digit_range a first.0 in
    let from_b = digit_range b second.0 in
    let from_c = digit_range c third.0 in
    let from_d = digit_range d fourth.0 in
    cons_same a (48 + n / 1000 % 10) (b ∷ c ∷ d ∷ []) _ (omega arith)
    (cons_same b (48 + n / 100 % 10) (c ∷ d ∷ []) _ (omega arith)
    (cons_same c (48 + n / 10 % 10) (d ∷ []) _ (omega arith)
    (cons_same d (48 + n % 10) [] [] (omega arith) refl)))
four_digits_are (a ∷ b ∷ c ∷ d ∷ e ∷ cs) n size h = absurd (omega arith)
