-- Integers in their shortest spelling are read as what their digits write.
use Rattle.std.proofs.Common.{ℕ, ℤ, ◌≡◌, ◌+◌, ◌-◌, ◌*◌, ◌^◌, ◌<◌, ◌≤◌, Bool, true, false, cond, ◌&&◌, List, [], ◌∷◌, length, get_or, take, Option, None, Some, Ok, Err, refl, ap, sym, subst, ◌∙◌, arith, add-one, lit<, pow-suc}
use Rattle.std.specs.Prelude.{IfSome, IsOk, IsUtf8, slice_index, unsigned_abs}
use Rattle.std.specs.Char.{digit_value, is_ascii_digit}
use Rattle.std.specs.Fmt.{decimal, signed_decimal}
use Rattle.std.specs.List.{list_all}
use Rattle.std.specs.Str.{IsAscii, all_ascii_digits}
use Rattle.std.specs.Str.Parse.{digits_value}
use Rattle.std.proofs.Math.Nat.{pow-le-pow_right}
use Rattle.std.proofs.lemmas.Bool.{lt-ltb}
use Rattle.std.proofs.lemmas.Fmt.{IsAscii-decimal_wide, decimal-digits_value}
use Rattle.std.proofs.lemmas.Int.Digits.{digits_value_more}
use Rattle.std.proofs.lemmas.List.Folds.{list_all_more}
use Rattle.std.proofs.lemmas.Str.{IsUtf8-from_ascii}
use Rattle.std.proofs.lemmas.Str.Ascii.{IsAscii-cons}
use Rattle.std.proofs.lemmas.Str.Parse.{IsNumeralModel, digits_value_short, numerals_by_value, tells_all_ascii_digits}
use Rattle.vtl_decimal.specs.declared.number.Fault.TheVariants.{Range}
use Rattle.vtl_decimal.specs.Range.{fit_integer}
use Rattle.vtl_cell.specs.Reading.{reads}
use Rattle.vtl_decimal.specs.Settings.{Settings}
use Rattle.vtl_cell.specs.declared.cell.Cell.TheVariants as c
use Rattle.vtl_cell.specs.declared.kind.Kind.TheVariants as k
use Rattle.vtl_cell.proofs.Texts.{integer_reads_back}

-- ---- digits
digit_worth : (d : ℕ) → is_ascii_digit d ≡ true → (digit_value d ≡ d - 48) × (d - 48 < 10)
digit_worth d h = grind arith

-- the number after one more digit
pub value_more : (n : ℕ) (ds : List ℕ) (i : ℕ) → i < length ds → is_ascii_digit (get_or ds i 0) ≡ true → n ≡ digits_value 10 (take i ds) → n * 10 + (get_or ds i 0 - 48) ≡ digits_value 10 (take (i + 1) ds)
value_more n ds i lt h e = omega (arith, e, digits_value_more 10 ds i lt, (digit_worth (get_or ds i 0) h).0)

pub value_small : (n d i : ℕ) → is_ascii_digit d ≡ true → n < 10 ^ i → n * 10 + (d - 48) < 10 ^ (i + 1)
value_small n d i h small = omega (arith, ap (λ e. 10 ^ e) (add-one i), pow-suc 10 i, (digit_worth d h).1)

-- a number of so few digits fits
pub below_power : (n i most : ℕ) → i ≤ most → n < 10 ^ i → n < 10 ^ most
below_power n i most few small = omega (arith, small, pow-le-pow_right {n = 10} (omega arith) {i = i} {j = most} few)

pub digits_more : (ds : List ℕ) (i : ℕ) → i < length ds → list_all is_ascii_digit (take i ds) ≡ true → is_ascii_digit (get_or ds i 0) ≡ true → list_all is_ascii_digit (take (i + 1) ds) ≡ true
digits_more ds i lt before here = rw (list_all_more is_ascii_digit ds i 0 lt, before) here

-- the two tests of a text of digits
all_digits : (ds : List ℕ) → list_all is_ascii_digit ds ≡ true → all_ascii_digits ds ≡ true
all_digits ds h = same ds ∙ h
  where
    same : (ds : List ℕ) → all_ascii_digits ds ≡ list_all is_ascii_digit ds
    same [] = refl
    same (d ∷ ds) = ap (λ b. is_ascii_digit d && b) (same ds)

own : IsNumeralModel (λ t. all_ascii_digits t ≡ true) (digits_value 10)
own = numerals_by_value (λ t. all_ascii_digits t ≡ true) tells_all_ascii_digits

value_short : (ds : List ℕ) (n most : ℕ) → list_all is_ascii_digit ds ≡ true → length ds ≤ most → n ≡ digits_value 10 ds → n < 10 ^ most
value_short ds n most h few e = subst (λ v. v < 10 ^ most) (sym e) (digits_value_short own ds most (all_digits ds h) few)

-- digits without a needless zero are the text of their number
spelled : (ds : List ℕ) (n : ℕ) → list_all is_ascii_digit ds ≡ true → 0 < length ds → length ds ≤ 18 → (slice_index ds 0 ≡ 48 → length ds ≡ 1) → n ≡ digits_value 10 ds → decimal n ≡ ds
spelled ds n h some few first e =
    ap decimal e ∙ decimal-digits_value own ds (all_digits ds h) some first (omega (arith, digits_value_short own ds 18 (all_digits ds h) few))

pub spelled_if : (ds : List ℕ) (o : Option ℕ) → 0 < length ds → length ds ≤ 18 → (slice_index ds 0 ≡ 48 → length ds ≡ 1) → IfSome o (λ n. list_all is_ascii_digit ds ≡ true) → IfSome o (λ n. n ≡ digits_value 10 ds) → IfSome o (λ n. decimal n ≡ ds)
spelled_if ds None some few first h e = tt
spelled_if ds (Some n) some few first h e = spelled ds n h some few first e

pub short_if : (ds : List ℕ) (o : Option ℕ) (most : ℕ) → length ds ≤ most → IfSome o (λ n. list_all is_ascii_digit ds ≡ true) → IfSome o (λ n. n ≡ digits_value 10 ds) → IfSome o (λ n. n < 10 ^ most)
short_if ds None most few h e = tt
short_if ds (Some n) most few h e = value_short ds n most h few e

-- ---- integers
-- the digits of a number with its sign are a text
pub plain_utf8 : (is_negative : Bool) (size : ℕ) → size < 10 ^ 18 → IsUtf8 (cond is_negative (45 ∷ decimal size) (decimal size))
plain_utf8 is_negative size small = IsUtf8-from_ascii (cond is_negative (45 ∷ decimal size) (decimal size)) (signed is_negative)
  where
    digits : IsAscii (decimal size)
    digits = IsAscii-decimal_wide size (omega (arith, small))

    signed : (b : Bool) → IsAscii (cond b (45 ∷ decimal size) (decimal size))
    signed true = IsAscii-cons 45 (decimal size) (lit< tt) digits
    signed false = digits

pub utf8_if : (o : Option ℤ) (t u : List ℕ) → u ≡ t → IsUtf8 u → IfSome o (λ n. IsUtf8 t)
utf8_if None t u is h = tt
utf8_if (Some n) t u is h = subst IsUtf8 is h

in_range : (s : ℕ) (n : ℤ) → unsigned_abs n < 10 ^ (18 - s) → IsOk (fit_integer s n)
in_range s n small = subst (λ b. IsOk (cond b (Ok n) (Err Range))) (sym (lt-ltb (unsigned_abs n) (10 ^ (18 - s)) small)) refl

integer_read : (p : Settings) (t : List ℕ) (n : ℤ) → signed_decimal n ≡ t → unsigned_abs n < 10 ^ (18 - p.scale) → reads p k.Int t ≡ Some (c.Int n)
integer_read p t n e small = subst (λ l. reads p k.Int l ≡ Some (c.Int n)) e (integer_reads_back p n refl (in_range p.scale n small))

pub integer_read_if : (p : Settings) (t u : List ℕ) (size : ℕ) (o : Option ℤ) → u ≡ t → size < 10 ^ (18 - p.scale) → IfSome o (λ n. signed_decimal n ≡ u) → IfSome o (λ n. unsigned_abs n ≡ size) → IfSome o (λ n. reads p k.Int t ≡ Some (c.Int n))
integer_read_if p t u size None is small e f = tt
integer_read_if p t u size (Some n) is small e f = integer_read p t n (e ∙ is) (omega (arith, f))
