-- Each number is read from the text that is written for it, which has digits on both sides of the point.
use Rattle.std.proofs.Common.{◌≡◌, ℕ, ℤ, pos, ◌+◌, ◌*◌, ◌/◌, ◌%◌, ◌<◌, ◌≤◌, ◌^◌, Bool, true, false, cond, List, [], ◌∷◌, ◌++◌, length, Option, Some, None, refl, ap, sym, ◌∙◌, subst, arith, append-nil}
use Rattle.std.specs.Prelude.{nat_le, option_and_then, option_map}
use Rattle.std.specs.Fmt.{decimal}
use Rattle.std.specs.Int.{is_negative}
use Rattle.std.specs.Result.{result_ok}
use Rattle.std.specs.Str.{IsAscii, all_ascii_digits}
use Rattle.std.specs.Str.Parse.{digits_value}
use Rattle.std.proofs.Math.Nat.{div-le_self}
use Rattle.std.proofs.lemmas.Fmt.{IsAscii-decimal, IsAscii-from_digits, decimal_nonempty}
use Rattle.std.proofs.lemmas.Str.{IsAscii-append, encodes-IsAscii}
use Rattle.std.proofs.lemmas.Str.Ascii.{IsAscii-cons}
use Rattle.vtl_decimal.specs.Numeral.{Numeral, SpellsNumeral, no_exponent, no_point, no_sign, number_of, number_spelled, numeral_of, point}
use Rattle.vtl_decimal.specs.Range.{fit_number}
use Rattle.vtl_decimal.specs.Rounding.{rounded_size, rounds_up}
use Rattle.vtl_decimal.specs.Settings.{Settings}
use Rattle.vtl_decimal.specs.Written.{behind_point, number_text, shortest_digits}
use Rattle.vtl_decimal.specs.declared.settings.Rounding.{Rounding}
use Rattle.vtl_decimal.proofs.DigitLemmas.{all_digits, value-append}
use Rattle.vtl_decimal.proofs.ReadingLemmas.{spelled_numeral}
use Rattle.vtl_decimal.proofs.RoundingLemmas.{rounds_up_no_rest}
use Rattle.vtl_decimal.proofs.WrittenLemmas.{reads_back, text_spelled}
use Rattle.vtl_cell.specs.declared.cell.Cell.TheVariants as c
use Rattle.vtl_cell.specs.Literals.{number_cell}
use Rattle.expressions_to_sql.specs.Constants.{decimal_text, some_digit}

unlimited : (b : Bool) (o : Option ℤ) (k : ℤ) → cond b o None ≡ Some k → o ≡ Some k
unlimited true o k e = e
unlimited false o k e = cc

-- a zero behind the point changes nothing
rounded_whole : (m : Rounding) (x : ℕ) → rounded_size m (x * 10) 10 ≡ rounded_size m x 1
rounded_whole m x =
    let a : x * 10 % 10 ≡ 0 = omega arith in
    let b : x % 1 ≡ 0 = omega arith in
    let e : x * 10 / 10 ≡ x / 1 = omega arith in
    ap (λ r. x * 10 / 10 + cond (rounds_up m (x * 10 / 10) r 10) 1 0) a
    ∙ ap (λ t. x * 10 / 10 + cond t 1 0) (rounds_up_no_rest m (x * 10 / 10) 10 (omega arith))
    ∙ ap (λ z. z + 0) e
    ∙ ap (λ t. x / 1 + cond t 1 0) (sym (rounds_up_no_rest m (x / 1) 1 (omega arith)))
    ∙ ap (λ r. x / 1 + cond (rounds_up m (x / 1) r 1) 1 0) (sym b)

module _ (p : Settings) (low : p.scale ≤ 9) (n : ℕ) (small : n < 10 ^ 18) where
  abbrev q : ℕ
  q = n / 10 ^ p.scale

  abbrev f : List ℕ
  f = shortest_digits p.scale (n % 10 ^ p.scale)

  few : q < 10 ^ 18
  few = omega (arith, div-le_self n (10 ^ p.scale))

  -- the text without a sign
  plain : number_text p.scale (pos n) ≡ decimal q ++ behind_point f
  plain =
      let not_below : is_negative (pos n) ≡ false = grind arith in
      ap (λ b. cond b (45 ∷ []) [] ++ (decimal q ++ behind_point f)) not_below

  spelled : number_spelled p (decimal q ++ behind_point f) ≡ Some (pos n)
  spelled = subst (λ t. number_spelled p t ≡ Some (pos n)) plain (unlimited (nat_le (length (number_text p.scale (pos n))) 64) (number_spelled p (number_text p.scale (pos n))) (pos n) (reads_back p (pos n) low small))

  whole_digits : all_ascii_digits (decimal q) ≡ true
  whole_digits = (text_spelled p.scale (pos n) low small).whole_digits

  abbrev numeral : List ℕ → Numeral
  numeral part = record { negative = false; whole = decimal q; fraction = part; exponent = pos 0 }

  some : 0 < length (decimal q)
  some = decimal_nonempty q (omega (arith, few))

  without_part : SpellsNumeral (decimal q) (numeral [])
  without_part = record {
    sign = [];
    separator = [];
    power = [];
    parts = sym (append-nil (decimal q));
    signs = no_sign;
    whole_digits = whole_digits;
    points = no_point;
    fraction_digits = refl;
    some_digit = omega (arith, some);
    exponents = no_exponent;
  }

  with_zero : SpellsNumeral (decimal q ++ 46 ∷ 48 ∷ []) (numeral (48 ∷ []))
  with_zero = record {
    sign = [];
    separator = 46 ∷ [];
    power = [];
    parts = refl;
    signs = no_sign;
    whole_digits = whole_digits;
    points = point (48 ∷ []);
    fraction_digits = refl;
    some_digit = omega (arith, some);
    exponents = no_exponent;
  }

  same_value : number_of p (numeral (48 ∷ [])) ≡ number_of p (numeral [])
  same_value =
      let x = digits_value 10 (decimal q ++ []) * 10 ^ (p.scale + 0) in
      let more : digits_value 10 (decimal q ++ 48 ∷ []) * 10 ^ (p.scale + 0) ≡ x * 10 =
      ap (λ v. v * 10 ^ (p.scale + 0)) (value-append (decimal q) (48 ∷ []) ∙ ap (λ l. digits_value 10 l * 10 ^ 1 + 0) (sym (append-nil (decimal q))))
      ∙ turned (digits_value 10 (decimal q ++ [])) (10 ^ (p.scale + 0)) in
      ap (λ v. result_ok (fit_number (pos (rounded_size p.rounding v 10)))) more ∙ ap (λ v. result_ok (fit_number (pos v))) (rounded_whole p.rounding x)
    where
      turned : (v u : ℕ) → (v * 10 ^ 1 + 0) * u ≡ v * u * 10
      turned v u = omega arith

  written_is : (part : List ℕ) → f ≡ part → number_spelled p (decimal q ++ 46 ∷ some_digit part) ≡ Some (pos n)
  written_is [] e =
      let text : decimal q ++ behind_point f ≡ decimal q = ap (λ l. decimal q ++ behind_point l) e ∙ append-nil (decimal q) in
      let own : option_and_then (number_of p) (numeral_of (decimal q)) ≡ Some (pos n) = subst (λ t. number_spelled p t ≡ Some (pos n)) text spelled in
      ap (option_and_then (number_of p)) (spelled_numeral (decimal q ++ 46 ∷ 48 ∷ []) (numeral (48 ∷ [])) with_zero)
      ∙ same_value
      ∙ ap (option_and_then (number_of p)) (sym (spelled_numeral (decimal q) (numeral []) without_part))
      ∙ own
  written_is (d ∷ ds) e = subst (λ l. number_spelled p (decimal q ++ behind_point l) ≡ Some (pos n)) e spelled

  ascii_part : (part : List ℕ) → all_ascii_digits part ≡ true → IsAscii (some_digit part)
  ascii_part [] h = IsAscii-from_digits (48 ∷ []) (all_digits (48 ∷ []) refl)
  ascii_part (d ∷ ds) h = IsAscii-from_digits (d ∷ ds) (all_digits (d ∷ ds) h)

  pub number_ascii : IsAscii (decimal_text p.scale n)
  number_ascii = IsAscii-append (decimal q) (46 ∷ some_digit f) (IsAscii-decimal q (omega (arith, few))) (IsAscii-cons 46 (some_digit f) (omega arith) (ascii_part f (text_spelled p.scale (pos n) low small).fraction_digits))

  pub number_is : number_cell p (decimal_text p.scale n) ≡ Some (c.Num (pos n))
  number_is = ap (λ t. option_map c.Num (number_spelled p t)) (encodes-IsAscii (decimal_text p.scale n) number_ascii) ∙ ap (option_map c.Num) (written_is f refl)
