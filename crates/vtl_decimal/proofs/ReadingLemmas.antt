-- What the text spells is what is read.
use Rattle.std.proofs.Common.{ℕ, ℤ, ◌≡◌, ◌+◌, ◌<◌, ◌≤◌, Bool, true, false, List, [], ◌∷◌, ◌++◌, drop, length, Option, Some, None, refl, ap, sym, ◌∙◌, arith, append_assoc}
use Rattle.std.specs.Prelude.{option_and_then, nat_lt, nat_le, ◌&&◌, ◌==◌, not, IsTrue, slice_index}
use Rattle.std.specs.Char.{is_ascii_digit}
use Rattle.std.specs.List.{before_first, list_all}
use Rattle.std.specs.Str.Parse.{digits_value, starts_with_minus, without_leading_sign}
use Rattle.std.proofs.lemmas.Bool.{and_parts, and_from, cond-true, lt-ltb, le-leb}
use Rattle.std.proofs.lemmas.List.Folds.{list_all-append}
use Rattle.std.specs.Str.{all_ascii_digits}
use Rattle.vtl_decimal.specs.Numeral.{Numeral, signed, IsSign, no_sign, plus, minus, IsPoint, no_point, point, IsMark, small, capital, IsExponent, no_exponent, times_ten_to, SpellsNumeral, is_mark, is_decimal_point, from_first, power_of, exponent_of, with_digits, unsigned_numeral_of, numeral_of}
use Rattle.vtl_decimal.proofs.SplitLemmas.{IsCut, at_end, at, before_first-append, from_first-append}

-- a digit is no mark, no point and no sign
digit_no_mark : (d : ℕ) → is_ascii_digit d ≡ true → not (is_mark d) ≡ true
digit_no_mark d h = grind arith

digit_no_point : (d : ℕ) → is_ascii_digit d ≡ true → not (is_decimal_point d) ≡ true
digit_no_point d h = grind arith

digit_no_minus : (d : ℕ) → is_ascii_digit d ≡ true → (d == 45) ≡ false
digit_no_minus d h = grind arith

digit_no_plus : (d : ℕ) → is_ascii_digit d ≡ true → (d == 43) ≡ false
digit_no_plus d h = grind arith

digits_no_mark : (ds : List ℕ) → IsTrue (all_ascii_digits ds) → list_all (λ b. not (is_mark b)) ds ≡ true
digits_no_mark [] h = refl
digits_no_mark (d ∷ ds) h =
    let both = and_parts (is_ascii_digit d) (all_ascii_digits ds) h in
    and_from (not (is_mark d)) (list_all (λ b. not (is_mark b)) ds) (digit_no_mark d both.0) (digits_no_mark ds both.1)

digits_no_point : (ds : List ℕ) → IsTrue (all_ascii_digits ds) → list_all (λ b. not (is_decimal_point b)) ds ≡ true
digits_no_point [] h = refl
digits_no_point (d ∷ ds) h =
    let both = and_parts (is_ascii_digit d) (all_ascii_digits ds) h in
    and_from (not (is_decimal_point d)) (list_all (λ b. not (is_decimal_point b)) ds) (digit_no_point d both.0) (digits_no_point ds both.1)

-- ---- the sign
record HasNoSign (t : List ℕ) : Type 0 where
  no_minus : (slice_index t 0 == 45) ≡ false
  no_plus : (slice_index t 0 == 43) ≡ false

minus_read : (sign body : List ℕ) (negative : Bool) → IsSign sign negative → HasNoSign body → starts_with_minus (sign ++ body) ≡ negative
minus_read _ body _ no_sign h = h.no_minus
minus_read _ body _ plus h = refl
minus_read _ body _ minus h = refl

body_read : (sign body : List ℕ) (negative : Bool) → IsSign sign negative → HasNoSign body → without_leading_sign (sign ++ body) ≡ body
body_read _ body _ no_sign h = rw (h.no_minus, h.no_plus) refl
body_read _ body _ plus h = refl
body_read _ body _ minus h = refl

digits_no_sign : (ds : List ℕ) → IsTrue (all_ascii_digits ds) → 0 < length ds → HasNoSign ds
digits_no_sign [] h some = absurd (omega arith)
digits_no_sign (d ∷ ds) h some =
    let both = and_parts (is_ascii_digit d) (all_ascii_digits ds) h in
    record { no_minus = digit_no_minus d both.0; no_plus = digit_no_plus d both.0 }

mantissa_no_sign : (whole separator fraction behind : List ℕ) → IsTrue (all_ascii_digits whole) → IsPoint separator fraction → 0 < length whole + length fraction → HasNoSign (whole ++ (separator ++ (fraction ++ behind)))
mantissa_no_sign (d ∷ ds) separator fraction behind h points some =
    let both = and_parts (is_ascii_digit d) (all_ascii_digits ds) h in
    record { no_minus = digit_no_minus d both.0; no_plus = digit_no_plus d both.0 }
mantissa_no_sign [] _ _ behind h no_point some = absurd (omega arith)
mantissa_no_sign [] _ _ behind h (point fraction) some = record { no_minus = refl; no_plus = refl }

-- ---- the point
point_cut : (separator fraction : List ℕ) → IsPoint separator fraction → IsCut is_decimal_point (separator ++ fraction)
point_cut _ _ no_point = at_end
point_cut _ _ (point fraction) = at 46 fraction refl

point_dropped : (separator fraction : List ℕ) → IsPoint separator fraction → drop 1 (separator ++ fraction) ≡ fraction
point_dropped _ _ no_point = refl
point_dropped _ _ (point fraction) = refl

point_no_mark : (separator fraction : List ℕ) → IsPoint separator fraction → list_all (λ b. not (is_mark b)) separator ≡ true
point_no_mark _ _ no_point = refl
point_no_mark _ _ (point fraction) = refl

-- ---- the exponent
mark_passes : (b : ℕ) → IsMark b → is_mark b ≡ true
mark_passes _ small = refl
mark_passes _ capital = refl

exponent_cut : (power : List ℕ) (e : ℤ) → IsExponent power e → IsCut is_mark power
exponent_cut _ _ no_exponent = at_end
exponent_cut _ _ (times_ten_to mark sign digits negative marked signs h some few) = at mark (sign ++ digits) (mark_passes mark marked)

power_read : (sign digits : List ℕ) (negative : Bool) → IsSign sign negative → IsTrue (all_ascii_digits digits) → 0 < length digits → length digits ≤ 3 → power_of (sign ++ digits) ≡ Some (signed negative (digits_value 10 digits))
power_read sign digits negative signs h some few =
    let start = digits_no_sign digits h some in
    let test : (all_ascii_digits digits && (nat_lt 0 (length digits) && nat_le (length digits) 3)) ≡ true =
    and_from (all_ascii_digits digits) (nat_lt 0 (length digits) && nat_le (length digits) 3) h
    (and_from (nat_lt 0 (length digits)) (nat_le (length digits) 3) (lt-ltb 0 (length digits) some) (le-leb (length digits) 3 few)) in
    rw (body_read sign digits negative signs start, minus_read sign digits negative signs start)
    (cond-true (all_ascii_digits digits && (nat_lt 0 (length digits) && nat_le (length digits) 3)) (Some (signed negative (digits_value 10 digits))) None test)

exponent_read : (power : List ℕ) (e : ℤ) → IsExponent power e → exponent_of power ≡ Some e
exponent_read _ _ no_exponent = refl
exponent_read _ _ (times_ten_to mark sign digits negative marked signs h some few) = power_read sign digits negative signs h some few

-- ---- together
unsigned_read : (n : Numeral) (separator power : List ℕ) → IsTrue (all_ascii_digits n.whole) → IsPoint separator n.fraction → IsTrue (all_ascii_digits n.fraction) → 0 < length n.whole + length n.fraction → IsExponent power n.exponent → unsigned_numeral_of n.negative (n.whole ++ (separator ++ (n.fraction ++ power))) ≡ Some n
unsigned_read n separator power whole points fraction some exponents =
    let mantissa = n.whole ++ (separator ++ n.fraction) in
    let body : n.whole ++ (separator ++ (n.fraction ++ power)) ≡ mantissa ++ power =
    ap (λ xs. n.whole ++ xs) (sym (append_assoc separator n.fraction power)) ∙ sym (append_assoc n.whole (separator ++ n.fraction) power) in
    let none : list_all (λ b. not (is_mark b)) mantissa ≡ true =
    list_all-append (λ b. not (is_mark b)) n.whole (separator ++ n.fraction)
    ∙ and_from (list_all (λ b. not (is_mark b)) n.whole) (list_all (λ b. not (is_mark b)) (separator ++ n.fraction)) (digits_no_mark n.whole whole)
    (list_all-append (λ b. not (is_mark b)) separator n.fraction
    ∙ and_from (list_all (λ b. not (is_mark b)) separator) (list_all (λ b. not (is_mark b)) n.fraction) (point_no_mark separator n.fraction points) (digits_no_mark n.fraction fraction)) in
    let cut = exponent_cut power n.exponent exponents in
    let front : before_first is_mark (mantissa ++ power) ≡ mantissa = before_first-append is_mark mantissa power none cut in
    let back : from_first is_mark (mantissa ++ power) ≡ power = from_first-append is_mark mantissa power none cut in
    let front_whole : before_first is_decimal_point mantissa ≡ n.whole = before_first-append is_decimal_point n.whole (separator ++ n.fraction) (digits_no_point n.whole whole) (point_cut separator n.fraction points) in
    let front_rest : from_first is_decimal_point mantissa ≡ separator ++ n.fraction = from_first-append is_decimal_point n.whole (separator ++ n.fraction) (digits_no_point n.whole whole) (point_cut separator n.fraction points) in
    let test : (all_ascii_digits n.whole && (all_ascii_digits n.fraction && nat_lt 0 (length n.whole + length n.fraction))) ≡ true =
    and_from (all_ascii_digits n.whole) (all_ascii_digits n.fraction && nat_lt 0 (length n.whole + length n.fraction)) whole
    (and_from (all_ascii_digits n.fraction) (nat_lt 0 (length n.whole + length n.fraction)) fraction (lt-ltb 0 (length n.whole + length n.fraction) some)) in
    let F : List ℕ → List ℕ → List ℕ → Option Numeral = λ m r p. option_and_then (with_digits n.negative (before_first is_decimal_point m) (drop 1 r)) (exponent_of p) in
    let G : List ℕ → List ℕ → Option Numeral = λ w f. with_digits n.negative w f n.exponent in
    ap (unsigned_numeral_of n.negative) body
    ∙ ap (λ m. F m (from_first is_decimal_point m) (from_first is_mark (mantissa ++ power))) front
    ∙ ap (F mantissa (from_first is_decimal_point mantissa)) back
    ∙ ap (option_and_then (with_digits n.negative (before_first is_decimal_point mantissa) (drop 1 (from_first is_decimal_point mantissa)))) (exponent_read power n.exponent exponents)
    ∙ ap (λ w. G w (drop 1 (from_first is_decimal_point mantissa))) front_whole
    ∙ ap (λ r. G n.whole (drop 1 r)) front_rest
    ∙ ap (G n.whole) (point_dropped separator n.fraction points)
    ∙ cond-true (all_ascii_digits n.whole && (all_ascii_digits n.fraction && nat_lt 0 (length n.whole + length n.fraction))) (Some n) None test

-- the numeral that a text spells is the one that is read, so a text spells one at most
pub spelled_numeral : (t : List ℕ) (n : Numeral) → SpellsNumeral t n → numeral_of t ≡ Some n
spelled_numeral t n s =
    let body = n.whole ++ (s.separator ++ (n.fraction ++ s.power)) in
    let start = mantissa_no_sign n.whole s.separator n.fraction s.power s.whole_digits s.points s.some_digit in
    ap (λ text. unsigned_numeral_of (starts_with_minus text) (without_leading_sign text)) s.parts
    ∙ ap (λ b. unsigned_numeral_of b (without_leading_sign (s.sign ++ body))) (minus_read s.sign body n.negative s.signs start)
    ∙ ap (unsigned_numeral_of n.negative) (body_read s.sign body n.negative s.signs start)
    ∙ unsigned_read n s.separator s.power s.whole_digits s.points s.fraction_digits s.some_digit s.exponents
