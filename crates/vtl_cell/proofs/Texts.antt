-- The text of a value stands for the value.
use Rattle.std.proofs.Common.{ℕ, suc, ℤ, pos, negsuc, ◌≡◌, ◌-◌, ◌*◌, ◌/◌, ◌%◌, ◌^◌, ◌<◌, ◌≤◌, Bool, true, false, cond, List, [], ◌∷◌, ◌++◌, length, Option, Some, None, Ok, Err, refl, ap, sym, ◌∙◌, arith, append-nil, length-append}
use Rattle.std.specs.Prelude.{IsOk, unsigned_abs, nat_lt, nat_le, option_and_then, option_map, ◌==◌}
use Rattle.std.specs.Fmt.{decimal, signed_decimal}
use Rattle.std.specs.Result.{result_ok}
use Rattle.std.specs.Str.{all_ascii_digits}
use Rattle.std.specs.Str.Parse.{digits_value}
use Rattle.std.proofs.Math.Nat.{pow-le-pow_right}
use Rattle.std.proofs.lemmas.Bool.{eq-eqb, ltb-true, le-leb, cond-true}
use Rattle.std.proofs.lemmas.Fmt.{decimal_nonempty, digits_decimal, digits_value-decimal, length-decimal-le}
use Rattle.std.proofs.lemmas.Str.{chars-IsAscii}
use Rattle.std.proofs.lemmas.Str.Parse.{IsNumeralModel, numerals_by_value, tells_all_ascii_digits}
use Rattle.vtl_decimal.specs.Numeral.{Numeral, SpellsNumeral, IsSign, no_sign, minus, no_point, no_exponent, signed, numerator, IsShort, integer_of, integer_spelled, integer_read}
use Rattle.vtl_decimal.specs.Range.{fit_integer}
use Rattle.vtl_decimal.specs.Settings.{Settings}
use Rattle.vtl_decimal.specs.declared.number.Fault.TheVariants.{Range}
use Rattle.vtl_decimal.proofs.ReadingLemmas.{spelled_numeral}
use Rattle.vtl_decimal.proofs.ValueLemmas.{signed_size}
use Rattle.vtl_time.specs.Days.{CalendarDay, day_text, read_day_of}
use Rattle.vtl_time.specs.Periods.{YearPart, period_text, read_period_of}
use Rattle.vtl_time.proofs.DayLemmas.{read_day_ascii}
use Rattle.vtl_time.proofs.PeriodLemmas.{read_period_ascii}
use Rattle.vtl_cell.specs.Writing.{ReadsBack}
use Rattle.vtl_cell.specs.declared.cell.Cell.TheVariants as c

-- ---- integers
own : IsNumeralModel (λ t. all_ascii_digits t ≡ true) (digits_value 10)
own = numerals_by_value (λ t. all_ascii_digits t ≡ true) tells_all_ascii_digits

abbrev whole_numeral : Bool → ℕ → Numeral
whole_numeral negative n = record {
  negative = negative;
  whole = decimal n;
  fraction = [];
  exponent = pos 0;
}

whole_spelled : (sign : List ℕ) (negative : Bool) (n : ℕ) → IsSign sign negative → n < 10 ^ 18 → SpellsNumeral (sign ++ decimal n) (whole_numeral negative n)
whole_spelled sign negative n is small = record {
  sign = sign;
  separator = [];
  power = [];
  parts = ap (λ l. sign ++ l) (sym (append-nil (decimal n)));
  signs = is;
  whole_digits = digits_decimal own n (omega arith);
  points = no_point;
  fraction_digits = refl;
  some_digit = omega (arith, decimal_nonempty n (omega arith));
  exponents = no_exponent;
}

whole_short : (sign : List ℕ) (n : ℕ) → length sign ≤ 1 → n < 10 ^ 18 → IsShort (sign ++ decimal n)
whole_short sign n few small = omega (arith, length-append sign (decimal n), length-decimal-le 18 n (omega arith) small (omega arith))

whole_value : (s : ℕ) (negative : Bool) (n : ℕ) → n < 10 ^ 18 → nat_lt (unsigned_abs (signed negative n)) (10 ^ (18 - s)) ≡ true → integer_of s (whole_numeral negative n) ≡ Some (signed negative n)
whole_value s negative n small fits =
    let m = whole_numeral negative n in
    let F : ℕ → Option ℤ = λ v. cond (v % 1 == 0) (result_ok (fit_integer s (signed negative (v / 1)))) None in
    let value : numerator 0 m ≡ n = ap (λ ds. digits_value 10 ds * 1) (append-nil (decimal n)) ∙ omega (arith, digits_value-decimal own n (omega arith)) in
    let exact : n % 1 ≡ 0 = omega arith in
    let same : n / 1 ≡ n = omega arith in
    ap F value
    ∙ ap (λ b. cond b (result_ok (fit_integer s (signed negative (n / 1)))) None) (eq-eqb (n % 1) 0 exact)
    ∙ ap (λ v. result_ok (fit_integer s (signed negative v))) same
    ∙ ap (λ b. result_ok (cond b (Ok (signed negative n)) (Err Range))) fits

small_enough : (s n : ℕ) (negative : Bool) → nat_lt (unsigned_abs (signed negative n)) (10 ^ (18 - s)) ≡ true → n < 10 ^ 18
small_enough s n negative fits =
    let below = ltb-true (unsigned_abs (signed negative n)) (10 ^ (18 - s)) fits in
    omega (arith, below, signed_size negative n, pow-le-pow_right {n = 10} (omega arith) {i = 18 - s} {j = 18} (omega arith))

whole_read : (s : ℕ) (sign : List ℕ) (negative : Bool) (n : ℕ) → IsSign sign negative → length sign ≤ 1 → nat_lt (unsigned_abs (signed negative n)) (10 ^ (18 - s)) ≡ true → integer_read s (sign ++ decimal n) ≡ Some (signed negative n)
whole_read s sign negative n is few fits =
    let small = small_enough s n negative fits in
    let t = sign ++ decimal n in
    cond-true (nat_le (length t) 64) (integer_spelled s t) None (le-leb (length t) 64 (whole_short sign n few small))
    ∙ ap (option_and_then (integer_of s)) (spelled_numeral t (whole_numeral negative n) (whole_spelled sign negative n is small))
    ∙ whole_value s negative n small fits

integer_read_back : (s : ℕ) (n : ℤ) → nat_lt (unsigned_abs n) (10 ^ (18 - s)) ≡ true → integer_read s (signed_decimal n) ≡ Some n
integer_read_back s (pos n) fits = whole_read s [] false n no_sign (omega arith) fits
integer_read_back s (negsuc n) fits = whole_read s (45 ∷ []) true (suc n) minus (omega arith) fits

-- ---- values
in_range : (b : Bool) (n : ℤ) → IsOk (cond b (Ok n) (Err Range)) → b ≡ true
in_range true n h = refl
in_range false n h = cc

pub integer_reads_back : (p : Settings) (n : ℤ) → ReadsBack p (c.Int n)
integer_reads_back p n some fits = ap (option_map c.Int) (integer_read_back p.scale n (in_range (nat_lt (unsigned_abs n) (10 ^ (18 - p.scale))) n fits))

pub day_reads_back : (p : Settings) (d : CalendarDay) → read_day_of (day_text d) ≡ Some d → ReadsBack p (c.Day d)
day_reads_back p d e some fits =
    ap (λ t. option_map c.Day (read_day_of t)) (chars-IsAscii (day_text d) (read_day_ascii (day_text d) d e)) ∙ ap (option_map c.Day) e

pub period_reads_back : (p : Settings) (q : YearPart) → read_period_of (period_text q) ≡ Some q → ReadsBack p (c.Period q)
period_reads_back p q e some fits =
    ap (λ t. option_map c.Period (read_period_of t)) (chars-IsAscii (period_text q) (read_period_ascii (period_text q) q e)) ∙ ap (option_map c.Period) e
