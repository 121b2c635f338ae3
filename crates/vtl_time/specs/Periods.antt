-- Periods of time, their order, their texts and their shifts. A text is the list of its characters, and a character is its code.
use Rattle.std.specs.Prelude.{◌≡◌, ◌⊎◌, ℕ, ◌+◌, ◌-◌, ◌*◌, ◌/◌, ◌%◌, Bool, ◌&&◌, ◌==◌, nat_le, nat_lt, List, [], ◌∷◌, ◌++◌, length, take, drop, Option, None, Some, option_and_then, if◌then◌else◌, ℤ, pos, negsuc, ◌+ℤ◌}
use Rattle.std.specs.declared.cmp.Ordering.{Ordering}
use Rattle.std.specs.Ordering.{nat_cmp, on, then_cmp}
use Rattle.vtl_time.specs.declared.periods.Frequency.{Frequency}
use Rattle.vtl_time.specs.declared.periods.Frequency.TheVariants.{Annual, Semester, Quarter, Month}
use Rattle.vtl_time.specs.Numerals.{number_in_digits, two_digits, four_digits}

-- the parts of a year, counted from 1
abbrev pub parts_in_year : Frequency → ℕ
parts_in_year Annual = 1
parts_in_year Semester = 2
parts_in_year Quarter = 4
parts_in_year Month = 12

-- years come before halves, these before quarters, and these before months
abbrev pub frequency_rank : Frequency → ℕ
frequency_rank Annual = 0
frequency_rank Semester = 1
frequency_rank Quarter = 2
frequency_rank Month = 3

pub record YearPart : Type 0 where
  pub frequency : Frequency
  pub year : ℕ
  pub part : ℕ

-- a part of one of the years 0 to 9999
unfoldable pub is_year_part : Frequency → ℕ → ℕ → Bool
is_year_part f y n = nat_le y 9999 && (nat_le 1 n && nat_le n (parts_in_year f))

-- the period with these numbers, where there is one
abbrev pub period_of : Frequency → ℕ → ℕ → Option YearPart
period_of f y n = if is_year_part f y n then Some (record { frequency = f; year = y; part = n }) else None

-- by frequency, then by year, then by part
abbrev pub period_cmp : YearPart → YearPart → Ordering
period_cmp = then_cmp (on (λ p. frequency_rank p.frequency) nat_cmp) (then_cmp (on (λ p. p.year) nat_cmp) (on (λ p. p.part) nat_cmp))

-- how many periods of its frequency come before it from the year 0 on
abbrev pub index_of : YearPart → ℕ
index_of p = p.year * parts_in_year p.frequency + (p.part - 1)

-- the period that has so many of its frequency before it
abbrev pub period_at : Frequency → ℕ → YearPart
period_at f i = record { frequency = f; year = i / parts_in_year f; part = i % parts_in_year f + 1 }

-- the same, where it lies in the years 0 to 9999
abbrev pub period_within : Frequency → ℤ → Option YearPart
period_within f (pos i) = if nat_lt i (10000 * parts_in_year f) then Some (period_at f i) else None
period_within f (negsuc i) = None

-- the n-th period of its frequency after it, or before it for a negative n; both are parts of the years 0 to 9999
unfoldable pub shift_of : YearPart → ℤ → Option YearPart
shift_of p n = if is_year_part p.frequency p.year p.part then period_within p.frequency (pos (index_of p) +ℤ n) else None

-- the letter of a frequency, and how many digits its parts are written with
abbrev pub letter_of : Frequency → ℕ
letter_of Annual = 65
letter_of Semester = 83
letter_of Quarter = 81
letter_of Month = 77

abbrev pub width_of : Frequency → ℕ
width_of Annual = 1
width_of Semester = 1
width_of Quarter = 1
width_of Month = 2

abbrev pub part_text : Frequency → ℕ → List ℕ
part_text Annual n = (48 + n) ∷ []
part_text Semester n = (48 + n) ∷ []
part_text Quarter n = (48 + n) ∷ []
part_text Month n = two_digits n

-- YYYY-A1, YYYY-S1 to S2, YYYY-Q1 to Q4, YYYY-M01 to M12
abbrev pub period_text : YearPart → List ℕ
period_text p = four_digits p.year ++ (45 ∷ (letter_of p.frequency ∷ part_text p.frequency p.part))

-- the part that digits name, as many as the frequency has
abbrev pub numbered_part_of : Frequency → ℕ → List ℕ → Option YearPart
numbered_part_of f y cs = if length cs == width_of f then option_and_then (λ n. period_of f y n) (number_in_digits cs) else None

-- what follows the year and `-`: a letter and digits, or the two digits of a month
abbrev pub part_of : ℕ → List ℕ → Option YearPart
part_of y [] = None
part_of y (c ∷ cs) =
    if c == 65 then numbered_part_of Annual y cs
    else (if c == 83 then numbered_part_of Semester y cs
    else (if c == 81 then numbered_part_of Quarter y cs
    else (if c == 77 then numbered_part_of Month y cs
    else numbered_part_of Month y (c ∷ cs))))

-- what follows the year: nothing for the whole year, or `-` and a part
abbrev pub behind_year : ℕ → List ℕ → Option YearPart
behind_year y [] = period_of Annual y 1
behind_year y (c ∷ cs) = if c == 45 then part_of y cs else None

-- the period that the text spells, if it does: as it is written, or as YYYY for the year and YYYY-MM for the month
unfoldable pub read_period_of : List ℕ → Option YearPart
read_period_of cs =
    if nat_le 4 (length cs) then option_and_then (λ y. behind_year y (drop 4 cs)) (number_in_digits (take 4 cs)) else None

-- what follows the year in the short spelling; halves and quarters have none
abbrev pub short_part_text : Frequency → ℕ → List ℕ
short_part_text Annual n = []
short_part_text Semester n = 45 ∷ (letter_of Semester ∷ part_text Semester n)
short_part_text Quarter n = 45 ∷ (letter_of Quarter ∷ part_text Quarter n)
short_part_text Month n = 45 ∷ two_digits n

-- the short spelling of a year or a month
abbrev pub short_text : YearPart → List ℕ
short_text p = four_digits p.year ++ short_part_text p.frequency p.part

-- the text spells the period: as it is written, or in short
abbrev pub SpellsPeriod : List ℕ → YearPart → Type 0
SpellsPeriod cs p = (cs ≡ period_text p) ⊎ (cs ≡ short_text p)
