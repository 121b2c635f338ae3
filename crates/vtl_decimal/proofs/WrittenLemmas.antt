-- The text that is written spells the number that it was written for.
use Rattle.std.proofs.Common.{ℕ, zero, suc, ℤ, pos, negsuc, ◌≡◌, ◌≢◌, ◌+◌, ◌-◌, ◌*◌, ◌/◌, ◌%◌, ◌^◌, ◌<◌, ◌≤◌, inl, inr, Bool, true, false, cond, List, [], ◌∷◌, ◌++◌, length, get_or, Some, None, Ok, Err, refl, ap, sym, subst, ◌∙◌, arith, rules, append-nil, length-append, pow-suc, add-zero}
use Rattle.std.specs.Prelude.{unsigned_abs, nat_lt, nat_le, option_and_then, IsTrue}
use Rattle.std.specs.Fmt.{decimal}
use Rattle.std.specs.Int.{is_negative}
use Rattle.std.specs.Result.{result_ok}
use Rattle.std.specs.Str.Parse.{digits_value}
use Rattle.std.proofs.Math.Nat.{one-le-pow, div-le_self, mul-mod_left}
use Rattle.std.proofs.lemmas.Grind.{common_steps}
use Rattle.std.proofs.lemmas.Bool.{cond-true, lt-ltb, le-leb}
use Rattle.std.proofs.lemmas.Fmt.{decimal_nonempty, digits_decimal, digits_value-decimal, first_decimal, decimal_digit, length-decimal-le}
use Rattle.std.proofs.lemmas.Int.Digits.{digits_value_push}
use Rattle.std.proofs.lemmas.Nat.{div-add-mod', div-mul-add}
use Rattle.std.proofs.lemmas.Str.Parse.{IsNumeralModel, numerals_by_value}
use Rattle.std.specs.Str.{all_ascii_digits}
use Rattle.vtl_decimal.specs.Numeral.{Numeral, signed, IsSign, no_sign, minus, IsPoint, no_point, point, no_exponent, SpellsNumeral, IsShort, number_of, number_spelled, number_read, numerator, denominator}
use Rattle.vtl_decimal.specs.Range.{fit_number}
use Rattle.vtl_decimal.specs.declared.number.Fault.TheVariants.{Range}
use Rattle.vtl_decimal.specs.declared.settings.Rounding.{Rounding}
use Rattle.vtl_decimal.specs.Rounding.{rounds_up, rounded_size}
use Rattle.vtl_decimal.specs.Settings.{Settings}
use Rattle.vtl_decimal.specs.Written.{last_digits, shortest_digits, behind_point, sign_text, number_text, HasNoNeedlessDigit}
use Rattle.vtl_decimal.proofs.DigitLemmas.{all_ascii_digits-append, value-append, digit_value_is}
use Rattle.vtl_decimal.proofs.ReadingLemmas.{spelled_numeral}
use Rattle.vtl_decimal.proofs.RoundingLemmas.{rounds_up_no_rest, zero_or_more}
use Rattle.vtl_decimal.proofs.ValueLemmas.{rounded_signed}
use Rattle.vtl_decimal.proofs.WritingLemmas.{last_digits-suc, last_digits-none, length-last_digits, shortest_digits_zero, shortest_digits_nonzero, shortest_digits-none}

-- ---- the digits are digits
own : IsNumeralModel (λ t. all_ascii_digits t ≡ true) (digits_value 10)
own = numerals_by_value (λ t. all_ascii_digits t ≡ true) (search rules)

one_digit : (n : ℕ) → IsTrue (all_ascii_digits ((48 + n % 10) ∷ []))
one_digit n = grind arith

last_are_digits : (w n : ℕ) → IsTrue (all_ascii_digits (last_digits w n))
last_are_digits zero n = ap all_ascii_digits (last_digits-none n)
last_are_digits (suc w) n =
    ap all_ascii_digits (last_digits-suc w n) ∙ all_ascii_digits-append (last_digits w (n / 10)) ((48 + n % 10) ∷ []) (last_are_digits w (n / 10)) (one_digit n)

shortest_are_digits : (w n : ℕ) → IsTrue (all_ascii_digits (shortest_digits w n))
shortest_are_digits zero n = ap all_ascii_digits (shortest_digits-none n)
shortest_are_digits (suc w) n =
    elim (zero_or_more (n % 10)) [
      | inl none ↦
          let less : suc w - 1 ≡ w = omega arith in
          ap all_ascii_digits (shortest_digits_zero (suc w) n (omega arith) none) ∙ ap (λ k. all_ascii_digits (shortest_digits k (n / 10))) less ∙ shortest_are_digits w (n / 10)
      | inr some ↦ ap all_ascii_digits (shortest_digits_nonzero (suc w) n (omega arith) some) ∙ last_are_digits (suc w) n
    ]

length-shortest_digits-le : (w n : ℕ) → length (shortest_digits w n) ≤ w
length-shortest_digits-le zero n = omega (arith, ap length (shortest_digits-none n))
length-shortest_digits-le (suc w) n =
    elim (zero_or_more (n % 10)) [
      | inl none ↦
          let less : suc w - 1 ≡ w = omega arith in
          let same = ap length (shortest_digits_zero (suc w) n (omega arith) none) ∙ ap (λ k. length (shortest_digits k (n / 10))) less in
          omega (arith, same, length-shortest_digits-le w (n / 10))
      | inr some ↦ omega (arith, ap length (shortest_digits_nonzero (suc w) n (omega arith) some), length-last_digits (suc w) n)
    ]

-- ---- and write the number
last_value : (w n : ℕ) → n < 10 ^ w → digits_value 10 (last_digits w n) ≡ n
last_value zero n small = ap (digits_value 10) (last_digits-none n) ∙ omega arith
last_value (suc w) n small =
    let below : n / 10 < 10 ^ w = omega (arith, pow-suc 10 w) in
    let worth = digit_value_is (48 + n % 10) (omega arith) (omega arith) in
    ap (digits_value 10) (last_digits-suc w n)
    ∙ digits_value_push 10 (last_digits w (n / 10)) (48 + n % 10)
    ∙ omega (arith, last_value w (n / 10) below, worth)

regroup : (v p : ℕ) → v * (p * 10) ≡ v * p * 10
regroup v p = omega arith

regroup' : (m q : ℕ) → m * q * 10 ≡ m * 10 * q
regroup' m q = omega arith

ten_times : (v m n p p' q : ℕ) → p' ≡ p * 10 → n ≡ m * 10 → v * p ≡ m * q → v * p' ≡ n * q
ten_times v m n p p' q ep en e =
    ap (λ x. v * x) ep ∙ regroup v p ∙ ap (λ x. x * 10) e ∙ regroup' m q ∙ ap (λ x. x * q) (sym en)

shortest_value : (w n : ℕ) → n < 10 ^ w → digits_value 10 (shortest_digits w n) * 10 ^ w ≡ n * 10 ^ length (shortest_digits w n)
shortest_value zero n small =
    let nothing : n ≡ 0 = omega arith in
    ap (λ ds. digits_value 10 ds * 10 ^ 0) (shortest_digits-none n) ∙ (omega (arith, nothing) ∙ ap (λ ds. n * 10 ^ length ds) (sym (shortest_digits-none n)))
shortest_value (suc w) n small =
    let F : List ℕ → Type 0 = λ ds. digits_value 10 ds * 10 ^ suc w ≡ n * 10 ^ length ds in
    elim (zero_or_more (n % 10)) [
      | inl none ↦
          let less : suc w - 1 ≡ w = omega arith in
          let shorter = shortest_digits_zero (suc w) n (omega arith) none ∙ ap (λ k. shortest_digits k (n / 10)) less in
          let below : n / 10 < 10 ^ w = omega (arith, pow-suc 10 w) in
          subst F (sym shorter) (ten_times (digits_value 10 (shortest_digits w (n / 10))) (n / 10) n (10 ^ w) (10 ^ suc w) (10 ^ length (shortest_digits w (n / 10))) (pow-suc 10 w) (omega arith) (shortest_value w (n / 10) below))
      | inr some ↦
          let whole = last_value (suc w) n small in
          let size = length-last_digits (suc w) n in
          subst F (sym (shortest_digits_nonzero (suc w) n (omega arith) some)) (ap (λ v. v * 10 ^ suc w) whole ∙ ap (λ k. n * 10 ^ k) (sym size))
    ]

-- ---- the numeral of the text
abbrev pub written_numeral : ℕ → ℤ → Numeral
written_numeral s k = record {
  negative = is_negative k;
  whole = decimal (unsigned_abs k / 10 ^ s);
  fraction = shortest_digits s (unsigned_abs k % 10 ^ s);
  exponent = pos 0;
}

sign_is : (k : ℤ) → IsSign (sign_text k) (is_negative k)
sign_is (pos n) =
    let P : Bool → Type 0 = λ b. IsSign (cond b (45 ∷ []) []) b in
    let not_below : is_negative (pos n) ≡ false = grind arith in
    subst P (sym not_below) no_sign
sign_is (negsuc n) = minus

abbrev point_before : List ℕ → List ℕ
point_before [] = []
point_before (d ∷ ds) = 46 ∷ []

point_is : (ds : List ℕ) → IsPoint (point_before ds) ds
point_is [] = no_point
point_is (d ∷ ds) = point (d ∷ ds)

behind_is : (ds : List ℕ) → behind_point ds ≡ point_before ds ++ (ds ++ [])
behind_is [] = refl
behind_is (d ∷ ds) = ap (λ l. 46 ∷ l) (sym (append-nil (d ∷ ds)))

length-behind : (ds : List ℕ) → length (behind_point ds) ≤ length ds + 1
length-behind [] = omega arith
length-behind (d ∷ ds) = omega arith

length-sign : (k : ℤ) → length (sign_text k) ≤ 1
length-sign (pos n) = let not_below : is_negative (pos n) ≡ false = grind arith in rw not_below (omega arith)
length-sign (negsuc n) = omega arith

pub text_short : (s : ℕ) (k : ℤ) → s ≤ 9 → unsigned_abs k < 10 ^ 18 → IsShort (number_text s k)
text_short s k low small =
    let n = written_numeral s k in
    let fit : unsigned_abs k / 10 ^ s < 10 ^ 18 = omega (arith, div-le_self (unsigned_abs k) (10 ^ s)) in
    omega (
      arith,
      length-append (sign_text k) (n.whole ++ behind_point n.fraction),
      length-append n.whole (behind_point n.fraction),
      length-behind n.fraction,
      length-sign k,
      length-shortest_digits-le s (unsigned_abs k % 10 ^ s),
      length-decimal-le 18 (unsigned_abs k / 10 ^ s) (omega arith) fit (omega arith),
    )

pub text_spelled : (s : ℕ) (k : ℤ) → s ≤ 9 → unsigned_abs k < 10 ^ 18 → SpellsNumeral (number_text s k) (written_numeral s k)
text_spelled s k low small =
    let n = written_numeral s k in
    let fit : unsigned_abs k / 10 ^ s < 10 ^ 18 = omega (arith, div-le_self (unsigned_abs k) (10 ^ s)) in
    let digits = digits_decimal own (unsigned_abs k / 10 ^ s) (omega arith) in
    let first = decimal_nonempty (unsigned_abs k / 10 ^ s) (omega arith) in
    record {
      sign = sign_text k;
      separator = point_before n.fraction;
      power = [];
      parts = ap (λ l. sign_text k ++ (n.whole ++ l)) (behind_is n.fraction);
      signs = sign_is k;
      whole_digits = digits;
      points = point_is n.fraction;
      fraction_digits = shortest_are_digits s (unsigned_abs k % 10 ^ s);
      some_digit = omega (arith, first);
      exponents = no_exponent;
    }

-- ---- its value
expand : (w q v u : ℕ) → (w * q + v) * u ≡ w * u * q + v * u
expand w q v u = omega arith

collect : (w u q f : ℕ) → w * u * q + f * q ≡ (w * u + f) * q
collect w u q f = omega arith

scaled_value : (w q v u f n : ℕ) → v * u ≡ f * q → w * u + f ≡ n → (w * q + v) * u ≡ n * q
scaled_value w q v u f n e h = expand w q v u ∙ ap (λ x. w * u * q + x) e ∙ collect w u q f ∙ ap (λ x. x * q) h

rounded_exactly : (m : Rounding) (n q : ℕ) → 0 < q → rounded_size m (n * q) q ≡ n
rounded_exactly m n q h =
    let quotient : n * q / q ≡ n = ap (λ x. x / q) (sym (add-zero (n * q))) ∙ div-mul-add n q 0 h in
    let none : n * q % q ≡ 0 = mul-mod_left n q in
    ap (λ r. n * q / q + cond (rounds_up m (n * q / q) r q) 1 0) none
    ∙ ap (λ b. n * q / q + cond b 1 0) (rounds_up_no_rest m (n * q / q) q h)
    ∙ add-zero (n * q / q)
    ∙ quotient

signed_back : (k : ℤ) → signed (is_negative k) (unsigned_abs k) ≡ k
signed_back (pos n) =
    let not_below : is_negative (pos n) ≡ false = grind arith in
    ap (λ b. signed b n) not_below
signed_back (negsuc n) = refl

written_value : (p : Settings) (k : ℤ) → unsigned_abs k < 10 ^ 18 → number_of p (written_numeral p.scale k) ≡ Some k
written_value p k small =
    let s = p.scale in
    let n = written_numeral s k in
    let some : 0 < 10 ^ s = one-le-pow s 10 (omega arith) in
    let more : 0 < 10 ^ length n.fraction = one-le-pow (length n.fraction) 10 (omega arith) in
    let more' : 0 < denominator n = one-le-pow (length n.fraction + 0) 10 (omega arith) in
    let whole = digits_value-decimal own (unsigned_abs k / 10 ^ s) (omega (arith, div-le_self (unsigned_abs k) (10 ^ s))) in
    let digits = value-append n.whole n.fraction ∙ ap (λ w. w * 10 ^ length n.fraction + digits_value 10 n.fraction) whole in
    let rest = shortest_value s (unsigned_abs k % 10 ^ s) (omega arith) in
    let value : numerator s n ≡ unsigned_abs k * denominator n =
    ap (λ e. digits_value 10 (n.whole ++ n.fraction) * 10 ^ e) (add-zero s)
    ∙ ap (λ v. v * 10 ^ s) digits
    ∙ scaled_value (unsigned_abs k / 10 ^ s) (10 ^ length n.fraction) (digits_value 10 n.fraction) (10 ^ s) (unsigned_abs k % 10 ^ s) (unsigned_abs k) rest (div-add-mod' (unsigned_abs k) (10 ^ s))
    ∙ ap (λ e. unsigned_abs k * 10 ^ e) (sym (add-zero (length n.fraction))) in
    let size = ap (λ v. rounded_size p.rounding v (denominator n)) value ∙ rounded_exactly p.rounding (unsigned_abs k) (denominator n) more' in
    let back = rounded_signed p.rounding n.negative (numerator s n) (denominator n) more' ∙ ap (signed n.negative) size ∙ signed_back k in
    ap (λ v. result_ok (fit_number v)) back ∙ ap result_ok (cond-true (nat_lt (unsigned_abs k) (10 ^ 18)) (Ok k) (Err Range) (lt-ltb (unsigned_abs k) (10 ^ 18) small))

-- what is written is read as the number
pub reads_back : (p : Settings) (k : ℤ) → p.scale ≤ 9 → unsigned_abs k < 10 ^ 18 → number_read p (number_text p.scale k) ≡ Some k
reads_back p k low small =
    let t = number_text p.scale k in
    cond-true (nat_le (length t) 64) (number_spelled p t) None (le-leb (length t) 64 (text_short p.scale k low small))
    ∙ ap (option_and_then (number_of p)) (spelled_numeral (number_text p.scale k) (written_numeral p.scale k) (text_spelled p.scale k low small))
    ∙ written_value p k small

-- ---- no needless digit
last_of_push : (xs : List ℕ) (c : ℕ) → get_or (xs ++ (c ∷ [])) (length (xs ++ (c ∷ [])) - 1) 0 ≡ c
last_of_push xs c = grind (arith, common_steps)

trailing_digit : (w n : ℕ) → 0 < length (shortest_digits w n) → get_or (shortest_digits w n) (length (shortest_digits w n) - 1) 0 ≢ 48
trailing_digit zero n some = absurd (omega (arith, ap length (shortest_digits-none n)))
trailing_digit (suc w) n some =
    let F : List ℕ → Type 0 = λ ds. 0 < length ds → get_or ds (length ds - 1) 0 ≢ 48 in
    let all : F (shortest_digits (suc w) n) =
    elim (zero_or_more (n % 10)) [
      | inl none ↦
          let less : suc w - 1 ≡ w = omega arith in
          subst F (sym (shortest_digits_zero (suc w) n (omega arith) none ∙ ap (λ k. shortest_digits k (n / 10)) less)) (trailing_digit w (n / 10))
      | inr more ↦
          let last : get_or (last_digits (suc w) n) (length (last_digits (suc w) n) - 1) 0 ≡ 48 + n % 10 =
          ap (λ ds. get_or ds (length ds - 1) 0) (last_digits-suc w n) ∙ last_of_push (last_digits w (n / 10)) (48 + n % 10) in
          subst F (sym (shortest_digits_nonzero (suc w) n (omega arith) more)) (λ _ e. omega (arith, last, e))
    ] in
    all some

leading_digit : (n : ℕ) → n < 10 ^ 18 → get_or (decimal n) 0 0 ≡ 48 → length (decimal n) ≡ 1
leading_digit n small e =
    elim (zero_or_more n) [
      | inl none ↦ ap (λ v. length (decimal v)) none ∙ ap length (decimal_digit 0 (omega arith))
      | inr some ↦ absurd (omega (arith, first_decimal n some (omega arith), e))
    ]

pub no_needless_digit : (s : ℕ) (k : ℤ) → unsigned_abs k < 10 ^ 18 → HasNoNeedlessDigit (written_numeral s k)
no_needless_digit s k small = record {
  leading = leading_digit (unsigned_abs k / 10 ^ s) (omega (arith, div-le_self (unsigned_abs k) (10 ^ s)));
  trailing = trailing_digit s (unsigned_abs k % 10 ^ s);
  plain = refl;
}

pub shortest_spelled : (s : ℕ) (k : ℤ) → s ≤ 9 → unsigned_abs k < 10 ^ 18 → (n : Numeral) × SpellsNumeral (number_text s k) n × IsShort (number_text s k) × HasNoNeedlessDigit n
shortest_spelled s k low small = (written_numeral s k, text_spelled s k low small, text_short s k low small, no_needless_digit s k small)

pub ruleset written_laws = (reads_back, shortest_spelled)
