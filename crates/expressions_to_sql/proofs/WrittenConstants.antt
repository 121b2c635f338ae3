-- Constants and literals have the values and the kinds that they are written for.
use Rattle.std.proofs.Common.{◌≡◌, ℕ, suc, ℤ, pos, negsuc, ◌<◌, ◌≤◌, ◌^◌, ◌-◌, Bool, true, false, cond, List, Option, Some, None, Ok, Err, refl, ap, ◌∙◌, arith}
use Rattle.std.specs.Prelude.{IsOk, IsTrue, is_some, length, unsigned_abs, nat_le, nat_lt, option_map, unwrap_or}
use Rattle.std.specs.Fmt.{decimal}
use Rattle.std.specs.Result.{result_ok}
use Rattle.std.proofs.Math.Nat.{pow-le-pow_right}
use Rattle.std.proofs.lemmas.Bool.{ltb-true}
use Rattle.std.proofs.lemmas.Fmt.{IsAscii-decimal}
use Rattle.std.proofs.lemmas.Str.{encodes-IsAscii}
use Rattle.vtl_decimal.specs.Numeral.{integer_spelled}
use Rattle.vtl_decimal.specs.Range.{fit_integer}
use Rattle.vtl_decimal.specs.declared.number.Fault.TheVariants.{Range}
use Rattle.vtl_time.specs.Days.{CalendarDay, day_text, is_calendar_day}
use Rattle.vtl_time.specs.Periods.{YearPart, is_year_part, period_text}
use Rattle.vtl_time.proofs.DayLemmas.{read_day_ascii}
use Rattle.vtl_time.proofs.DayLemmas as days
use Rattle.vtl_time.proofs.PeriodLemmas.{read_period_ascii}
use Rattle.vtl_time.proofs.PeriodLemmas as periods
use Rattle.vtl_cell.specs.Conversion.{as_kind}
use Rattle.vtl_cell.specs.Held.{IsHeld}
use Rattle.vtl_cell.specs.Kinds.{is_null, kind_of}
use Rattle.vtl_cell.specs.Outcome.{Outcome, after}
use Rattle.vtl_cell.specs.Profile.{IsOfProfile}
use Rattle.vtl_cell.specs.Reading.{reads}
use Rattle.vtl_cell.specs.Row.{Row}
use Rattle.vtl_cell.specs.ScalarArithmetic.{integer, negation_of}
use Rattle.vtl_decimal.specs.Settings.{Settings}
use Rattle.vtl_cell.specs.declared.cell.Cell.{Cell}
use Rattle.vtl_cell.specs.declared.cell.Cell.TheVariants as c
use Rattle.vtl_cell.specs.declared.kind.Kind.TheVariants as k
use Rattle.vtl_cell.proofs.Texts.{day_reads_back, integer_reads_back, period_reads_back}
use Rattle.vtl_cell.specs.Literals.{integer_cell, integer_written, with_sign, written}
use Rattle.sql_check_laws.specs.Fits.{Fits}
use Rattle.sql_check_parts.specs.Expressions.{Site}
use Rattle.sql_check_parts.specs.Kinds.{kind_in}
use Rattle.sql_check_parts.specs.Literals.{literal_kind, literal_value}
use Rattle.sql_check_parts.specs.Scopes.{Grouping, Scope}
use Rattle.sql_meaning.specs.Values.{View, value}
use Rattle.expressions_to_sql.specs.Constants.{const_to_sql, literal_to_sql}
use Rattle.expressions_to_sql.proofs.WrittenNumbers.{number_is}

-- ---- kinds

pub const_kind : (s : Scope) (p : Settings) (v : Cell) → kind_in s (const_to_sql p v) ≡ kind_of v
const_kind s p c.Null = refl
const_kind s p (c.Bool true) = refl
const_kind s p (c.Bool false) = refl
const_kind s p (c.Int (pos n)) = refl
const_kind s p (c.Int (negsuc n)) = refl
const_kind s p (c.Num (pos n)) = refl
const_kind s p (c.Num (negsuc n)) = refl
const_kind s p (c.Text t) = refl
const_kind s p (c.Day d) = refl
const_kind s p (c.Period q) = refl

pub member_kind : (p : Settings) (v : Cell) → is_null v ≡ false → literal_kind (literal_to_sql p v) ≡ kind_of v
member_kind p c.Null n = cc
member_kind p (c.Bool true) n = refl
member_kind p (c.Bool false) n = refl
member_kind p (c.Int n) e = refl
member_kind p (c.Num n) e = refl
member_kind p (c.Text t) e = refl
member_kind p (c.Day d) e = refl
member_kind p (c.Period q) e = refl

-- ---- integers

pub small_of : (s : ℕ) (n : ℤ) → IsOk (fit_integer s n) → unsigned_abs n < 10 ^ 18
small_of s n h = go (nat_lt (unsigned_abs n) (10 ^ (18 - s))) refl h
  where
    go : (b : Bool) → nat_lt (unsigned_abs n) (10 ^ (18 - s)) ≡ b → IsOk (cond b (Ok n) (Err Range)) → unsigned_abs n < 10 ^ 18
    go true e i = omega (arith, ltb-true (unsigned_abs n) (10 ^ (18 - s)) e, pow-le-pow_right {n = 10} (omega arith) {i = 18 - s} {j = 18} (omega arith))
    go false e i = cc

unlimited : (n : ℤ) (b : Bool) (o : Option ℤ) → option_map c.Int (cond b o None) ≡ Some (c.Int n) → option_map c.Int o ≡ Some (c.Int n)
unlimited n true o e = e
unlimited n false o e = cc

pub integer_is : (p : Settings) (n : ℕ) → IsOfProfile p (c.Int (pos n)) → integer_cell p (decimal n) ≡ Some (c.Int (pos n))
integer_is p n h =
    let ascii = IsAscii-decimal n (omega (arith, small_of p.scale (pos n) h)) in
    ap (λ t. option_map c.Int (integer_spelled p.scale t)) (encodes-IsAscii (decimal n) ascii)
    ∙ unlimited (pos n) (nat_le (length (decimal n)) 64) (integer_spelled p.scale (decimal n)) (integer_reads_back p (pos n) refl h)

pub integer_there : (p : Settings) (n : ℕ) → IsOfProfile p (c.Int (pos n)) → integer_written p (decimal n) ≡ Some (pos n)
integer_there p n h = go (integer_written p (decimal n)) (integer_is p n h)
  where
    go : (o : Option ℤ) → option_map c.Int o ≡ Some (c.Int (pos n)) → o ≡ Some (pos n)
    go None e = cc
    go (Some z) e = cc

-- the size of an integer of the profile is one
pub size_fits : (p : Settings) (n : ℕ) → IsOfProfile p (c.Int (negsuc n)) → IsOfProfile p (c.Int (pos (suc n)))
size_fits p n h = go (nat_lt (suc n) (10 ^ (18 - p.scale))) h
  where
    go : (b : Bool) → IsOk (cond b (Ok (negsuc n)) (Err Range)) → IsOk (cond b (Ok (pos (suc n))) (Err Range))
    go true i = refl
    go false i = cc

negated : (p : Settings) (n : ℕ) → IsOfProfile p (c.Int (negsuc n)) → negation_of p (c.Int (pos (suc n))) ≡ Ok (c.Int (negsuc n))
negated p n h = go (nat_lt (suc n) (10 ^ (18 - p.scale))) h
  where
    go : (b : Bool) → IsOk (cond b (Ok (negsuc n)) (Err Range)) → integer (cond b (Ok (negsuc n)) (Err Range)) ≡ Ok (c.Int (negsuc n))
    go true i = refl
    go false i = cc

-- ---- days and periods

day_is : (p : Settings) (d : CalendarDay) → IsTrue (is_calendar_day d.year d.month d.day) → written p k.Day (day_text d) ≡ Some (c.Day d)
day_is p d h =
    let e = days.reads_back d h in
    ap (reads p k.Day) (encodes-IsAscii (day_text d) (read_day_ascii (day_text d) d e)) ∙ day_reads_back p d e refl tt

period_is : (p : Settings) (q : YearPart) → IsTrue (is_year_part q.frequency q.year q.part) → written p k.Period (period_text q) ≡ Some (c.Period q)
period_is p q h =
    let e = periods.reads_back q h in
    ap (reads p k.Period) (encodes-IsAscii (period_text q) (read_period_ascii (period_text q) q e)) ∙ period_reads_back p q e refl tt

-- ---- literals, and constants in expressions

module _ (p : Settings) (low : p.scale ≤ 9) where
  pub literal_is : (x : Cell) → IsHeld x → IsOfProfile p x → is_null x ≡ false → literal_value p (literal_to_sql p x) ≡ Some x
  literal_is c.Null h i n = cc
  literal_is (c.Bool true) h i n = refl
  literal_is (c.Bool false) h i n = refl
  literal_is (c.Int (pos n)) h i e = integer_is p n i
  literal_is (c.Int (negsuc n)) h i e = ap (with_sign p true) (integer_is p (suc n) (size_fits p n i)) ∙ ap result_ok (negated p n i)
  literal_is (c.Num (pos n)) h i e = number_is p low n h
  literal_is (c.Num (negsuc n)) h i e = ap (with_sign p true) (number_is p low (suc n) h)
  literal_is (c.Text t) h i e = refl
  literal_is (c.Day d) h i e = day_is p d h
  literal_is (c.Period q) h i e = period_is p q h

abbrev value_or_null : Option Cell → Outcome Cell
value_or_null o = Ok (unwrap_or o c.Null)

module _ (v : View) (low : v.base.settings.scale ≤ 9) where
  abbrev p : Settings
  p = v.base.settings

  pub constant_is : (x : Cell) (r : Row) (g : List Row) → IsHeld x → IsOfProfile p x → value v (const_to_sql p x) r g ≡ Ok x
  constant_is c.Null r g h i = refl
  constant_is (c.Bool true) r g h i = refl
  constant_is (c.Bool false) r g h i = refl
  constant_is (c.Int (pos n)) r g h i = ap value_or_null (integer_is p n i)
  constant_is (c.Int (negsuc n)) r g h i =
      ap (λ o. after (negation_of p (unwrap_or o c.Null)) (as_kind p k.Int)) (integer_is p (suc n) (size_fits p n i))
      ∙ ap (λ m. after m (as_kind p k.Int)) (negated p n i)
  constant_is (c.Num (pos n)) r g h i = ap value_or_null (number_is p low n h)
  constant_is (c.Num (negsuc n)) r g h i = ap (λ o. after (negation_of p (unwrap_or o c.Null)) (as_kind p k.Num)) (number_is p low (suc n) h)
  constant_is (c.Text t) r g h i = refl
  constant_is (c.Day d) r g h i = ap value_or_null (day_is p d h)
  constant_is (c.Period q) r g h i = ap value_or_null (period_is p q h)

module _ (at : Site) (group : Option Grouping) (low : at.settings.scale ≤ 9) where
  abbrev q : Settings
  q = at.settings

  pub constant_fits : (x : Cell) → IsHeld x → IsOfProfile q x → Fits at group (const_to_sql q x)
  constant_fits c.Null h i = refl
  constant_fits (c.Bool true) h i = refl
  constant_fits (c.Bool false) h i = refl
  constant_fits (c.Int (pos n)) h i = ap is_some (integer_is q n i)
  constant_fits (c.Int (negsuc n)) h i = (ap is_some (integer_is q (suc n) (size_fits q n i)), refl)
  constant_fits (c.Num (pos n)) h i = ap is_some (number_is q low n h)
  constant_fits (c.Num (negsuc n)) h i = (ap is_some (number_is q low (suc n) h), refl)
  constant_fits (c.Text t) h i = refl
  constant_fits (c.Day d) h i = ap is_some (day_is q d h)
  constant_fits (c.Period z) h i = ap is_some (period_is q z h)
