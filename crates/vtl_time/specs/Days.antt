-- Days of the calendar, their order and their texts. A text is the list of its characters, and a character is its code.
use Rattle.std.specs.Prelude.{ℕ, zero, suc, ◌+◌, ◌-◌, ◌%◌, Bool, not, ◌&&◌, ◌||◌, ◌==◌, nat_le, List, ◌∷◌, ◌++◌, length, take, drop, slice_index, Option, None, Some, option_and_then, if◌then◌else◌}
use Rattle.std.specs.declared.cmp.Ordering.{Ordering}
use Rattle.std.specs.Ordering.{nat_cmp, on, then_cmp}
use Rattle.vtl_time.specs.Numerals.{number_in_digits, two_digits, four_digits}

pub record CalendarDay : Type 0 where
  pub year : ℕ
  pub month : ℕ
  pub day : ℕ

-- every fourth year, but of the centuries only every fourth
abbrev pub is_leap_year : ℕ → Bool
is_leap_year y = (y % 4 == 0) && (not (y % 100 == 0) || (y % 400 == 0))

-- thirty days have September, April, June and November
abbrev pub days_in_month : ℕ → ℕ → ℕ
days_in_month y m =
    if m == 2 then (if is_leap_year y then 29 else 28)
    else (if (m == 4) || (m == 6) || (m == 9) || (m == 11) then 30 else 31)

-- a day of the years 0 to 9999
unfoldable pub is_calendar_day : ℕ → ℕ → ℕ → Bool
is_calendar_day y m d = nat_le y 9999 && (nat_le 1 m && (nat_le m 12 && (nat_le 1 d && nat_le d (days_in_month y m))))

-- the day with these numbers, where the calendar has it
abbrev pub day_of : ℕ → ℕ → ℕ → Option CalendarDay
day_of y m d = if is_calendar_day y m d then Some (record { year = y; month = m; day = d }) else None

-- the days of the first n months of a year, and of the first n years from the year 0 on
unfoldable pub days_of_months : ℕ → ℕ → ℕ
days_of_months y zero = 0
days_of_months y (suc n) = days_of_months y n + days_in_month y (suc n)

unfoldable pub days_of_years : ℕ → ℕ
days_of_years zero = 0
days_of_years (suc n) = days_of_years n + days_of_months n 12

-- how many days lie between the first day of the year 0 and the day
unfoldable pub day_number : CalendarDay → ℕ
day_number d = days_of_years d.year + days_of_months d.year (d.month - 1) + (d.day - 1)

-- by year, then by month, then by day
abbrev pub day_cmp : CalendarDay → CalendarDay → Ordering
day_cmp = then_cmp (on (λ d. d.year) nat_cmp) (then_cmp (on (λ d. d.month) nat_cmp) (on (λ d. d.day) nat_cmp))

-- YYYY-MM-DD
abbrev pub day_text : CalendarDay → List ℕ
day_text d = four_digits d.year ++ (45 ∷ (two_digits d.month ++ (45 ∷ two_digits d.day)))

-- ten characters, the fifth and the eighth of them `-`
abbrev pub has_day_shape : List ℕ → Bool
has_day_shape cs = (length cs == 10) && ((slice_index cs 4 == 45) && (slice_index cs 7 == 45))

-- the day that the text spells as YYYY-MM-DD, if it does
unfoldable pub read_day_of : List ℕ → Option CalendarDay
read_day_of cs =
    if has_day_shape cs then
    option_and_then (λ y.
    option_and_then (λ m.
    option_and_then (λ d. day_of y m d)
    (number_in_digits (drop 8 cs)))
    (number_in_digits (take 2 (drop 5 cs))))
    (number_in_digits (take 4 cs))
    else None
