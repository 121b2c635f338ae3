-- Cells that feed a hasher alike are equal.
use Rattle.std.proofs.Common.{ℕ, ℤ, pos, negsuc, ◌≡◌, ◌^◌, ◌<◌, Bool, true, false, List, [], ◌∷◌, refl, ap, sym, ◌∙◌, arith, chars}
use Rattle.std.specs.Prelude.{unsigned_abs, IsTrue, nat_le}
use Rattle.std.specs.Hash.{le_bytes}
use Rattle.std.specs.Int.{w16, w64, from_le_bytes}
use Rattle.std.specs.Int.RustNames.{FitsSigned}
use Rattle.std.specs.Str.{all_scalars}
use Rattle.std.proofs.lemmas.Bool.{leb-true, and_parts}
use Rattle.std.proofs.lemmas.Int.{to_z-of_z}
use Rattle.std.proofs.lemmas.Nat.{from_le_bytes-to_le_bytes_2, from_le_bytes-to_le_bytes_8}
use Rattle.std.proofs.lemmas.Str.{chars-encodes}
use mir.Val.{of_z, to_z}
use Rattle.vtl_time.specs.Days.{CalendarDay, is_calendar_day}
use Rattle.vtl_time.specs.Periods.{YearPart, is_year_part, frequency_rank}
use Rattle.vtl_time.specs.declared.periods.Frequency.{Frequency}
use Rattle.vtl_time.specs.declared.periods.Frequency.TheVariants.{Annual, Semester, Quarter, Month}
use Rattle.vtl_cell.proofs.Times.{day_of_parts, period_of_parts, rank_apart}
use Rattle.vtl_cell.specs.Held.{IsHeld}
use Rattle.vtl_cell.specs.Order.{kind_rank}
use Rattle.vtl_cell.specs.declared.cell.Cell.{Cell}
use Rattle.vtl_cell.specs.declared.cell.Cell.TheVariants as c
use Rattle.vtl_cell.specs.contracts.cell.CellHash.TheImpl.{hash_input-value}

abbrev fed : Cell → List (List ℕ)
fed = hash_input-value.it

-- ---- one write after another
abbrev first : List (List ℕ) → List ℕ
first [] = []
first (w ∷ ws) = w

abbrev later : List (List ℕ) → List (List ℕ)
later [] = []
later (w ∷ ws) = ws

abbrev byte : List ℕ → ℕ
byte [] = 0
byte (b ∷ bs) = b

wide_same : (m n : ℕ) → m < 2 ^ 64 → n < 2 ^ 64 → le_bytes 8 m ≡ le_bytes 8 n → m ≡ n
unfolding le_bytes
wide_same m n h k e = sym (from_le_bytes-to_le_bytes_8 m h) ∙ ap (from_le_bytes w64) e ∙ from_le_bytes-to_le_bytes_8 n k

short_same : (m n : ℕ) → m < 2 ^ 16 → n < 2 ^ 16 → le_bytes 2 m ≡ le_bytes 2 n → m ≡ n
unfolding le_bytes
short_same m n h k e = sym (from_le_bytes-to_le_bytes_2 m h) ∙ ap (from_le_bytes w16) e ∙ from_le_bytes-to_le_bytes_2 n k

-- ---- the kind comes first
kind_fed : (x : Cell) → first (fed x) ≡ le_bytes 8 (kind_rank x)
kind_fed c.Null = refl
kind_fed (c.Bool b) = refl
kind_fed (c.Int n) = refl
kind_fed (c.Num k) = refl
kind_fed (c.Text t) = refl
kind_fed (c.Day d) = refl
kind_fed (c.Period q) = refl

rank_small : (x : Cell) → kind_rank x < 2 ^ 64
rank_small c.Null = omega arith
rank_small (c.Bool b) = omega arith
rank_small (c.Int n) = omega arith
rank_small (c.Num k) = omega arith
rank_small (c.Text t) = omega arith
rank_small (c.Day d) = omega arith
rank_small (c.Period q) = omega arith

same_kind : (x y : Cell) → fed x ≡ fed y → kind_rank x ≡ kind_rank y
same_kind x y e = wide_same (kind_rank x) (kind_rank y) (rank_small x) (rank_small y) (sym (kind_fed x) ∙ ap first e ∙ kind_fed y)

-- ---- then the value
bits_small : (n : ℤ) → FitsSigned w64 n → of_z w64 n < 2 ^ 64
bits_small (pos n) h = omega (arith, h)
bits_small (negsuc n) h = omega (arith, h)

integer_same : (m n : ℤ) → FitsSigned w64 m → FitsSigned w64 n → le_bytes 8 (of_z w64 m) ≡ le_bytes 8 (of_z w64 n) → m ≡ n
integer_same m n h k e =
    sym (to_z-of_z w64 m h) ∙ ap (to_z w64) (wide_same (of_z w64 m) (of_z w64 n) (bits_small m h) (bits_small n k) e) ∙ to_z-of_z w64 n k

number_fits : (k : ℤ) → unsigned_abs k < 10 ^ 18 → FitsSigned w64 k
number_fits (pos n) h = omega arith
number_fits (negsuc n) h = omega arith

bool_same : (a b : Bool) → fed (c.Bool a) ≡ fed (c.Bool b) → a ≡ b
bool_same true true e = refl
bool_same false false e = refl
bool_same true false e = cc
bool_same false true e = cc

year_of_day : (d : CalendarDay) → IsTrue (is_calendar_day d.year d.month d.day) → d.year < 2 ^ 16
unfolding is_calendar_day
year_of_day d h = omega (arith, leb-true d.year 9999 (and_parts (nat_le d.year 9999) _ h).0)

day_same : (d e : CalendarDay) → d.year < 2 ^ 16 → e.year < 2 ^ 16 → fed (c.Day d) ≡ fed (c.Day e) → d ≡ e
day_same d e h k s =
    let year : d.year ≡ e.year = short_same d.year e.year h k (ap (λ w. first (later w)) s) in
    let month : d.month ≡ e.month = ap (λ w. byte (first (later (later w)))) s in
    let day : d.day ≡ e.day = ap (λ w. byte (first (later (later (later w))))) s in
    day_of_parts d e year month day

year_of_period : (q : YearPart) → IsTrue (is_year_part q.frequency q.year q.part) → q.year < 2 ^ 16
unfolding is_year_part
year_of_period q h = omega (arith, leb-true q.year 9999 (and_parts (nat_le q.year 9999) _ h).0)

frequency_fed : (q : YearPart) → first (later (fed (c.Period q))) ≡ le_bytes 8 (frequency_rank q.frequency)
frequency_fed q = elim q.frequency as (λ f. first (later (fed (c.Period (record { frequency = f; year = q.year; part = q.part })))) ≡ le_bytes 8 (frequency_rank f)) [
  | Annual ↦ refl
  | Semester ↦ refl
  | Quarter ↦ refl
  | Month ↦ refl
]

frequency_small : (f : Frequency) → frequency_rank f < 2 ^ 64
frequency_small Annual = omega arith
frequency_small Semester = omega arith
frequency_small Quarter = omega arith
frequency_small Month = omega arith

period_same : (p q : YearPart) → p.year < 2 ^ 16 → q.year < 2 ^ 16 → fed (c.Period p) ≡ fed (c.Period q) → p ≡ q
period_same p q h k s =
    let rank = wide_same (frequency_rank p.frequency) (frequency_rank q.frequency) (frequency_small p.frequency) (frequency_small q.frequency) (sym (frequency_fed p) ∙ ap (λ w. first (later w)) s ∙ frequency_fed q) in
    let year : p.year ≡ q.year = short_same p.year q.year h k (ap (λ w. first (later (later w))) s) in
    let part : p.part ≡ q.part = ap (λ w. byte (first (later (later (later w))))) s in
    period_of_parts p q (rank_apart p.frequency q.frequency rank) year part

text_same : (s t : List ℕ) → all_scalars s ≡ true → all_scalars t ≡ true → fed (c.Text s) ≡ fed (c.Text t) → s ≡ t
text_same s t h k e = sym (chars-encodes s h) ∙ ap (λ w. chars (first (later w))) e ∙ chars-encodes t k

pub fed_same : (a b : Cell) → IsHeld a → IsHeld b → fed a ≡ fed b → a ≡ b
fed_same c.Null c.Null h k e = refl
fed_same (c.Bool a) (c.Bool b) h k e = ap c.Bool (bool_same a b e)
fed_same (c.Int a) (c.Int b) h k e = ap c.Int (integer_same a b h k (ap (λ w. first (later w)) e))
fed_same (c.Num a) (c.Num b) h k e = ap c.Num (integer_same a b (number_fits a h) (number_fits b k) (ap (λ w. first (later w)) e))
fed_same (c.Text a) (c.Text b) h k e = ap c.Text (text_same a b h k e)
fed_same (c.Day a) (c.Day b) h k e = ap c.Day (day_same a b (year_of_day a h) (year_of_day b k) e)
fed_same (c.Period a) (c.Period b) h k e = ap c.Period (period_same a b (year_of_period a h) (year_of_period b k) e)
fed_same c.Null y h k e = absurd (omega (arith, same_kind c.Null y e))
fed_same (c.Bool a) y h k e = absurd (omega (arith, same_kind (c.Bool a) y e))
fed_same (c.Int a) y h k e = absurd (omega (arith, same_kind (c.Int a) y e))
fed_same (c.Num a) y h k e = absurd (omega (arith, same_kind (c.Num a) y e))
fed_same (c.Text a) y h k e = absurd (omega (arith, same_kind (c.Text a) y e))
fed_same (c.Day a) y h k e = absurd (omega (arith, same_kind (c.Day a) y e))
fed_same (c.Period a) y h k e = absurd (omega (arith, same_kind (c.Period a) y e))
