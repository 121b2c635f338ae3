-- What the definitions on lists give for single lists.
use Rattle.std.proofs.Common.{◌≡◌, ℕ, ℤ, pos, negsuc, true, List, [], ◌∷◌, Ok, Err, refl}
use Rattle.std.specs.declared.cmp.Ordering.TheVariants.{Equal}
use Rattle.vtl_decimal.specs.Settings.{Settings}
use Rattle.vtl_decimal.specs.declared.settings.Rounding.TheVariants.{HalfUp}
use Rattle.vtl_cell.specs.declared.cell.Cell.{Cell}
use Rattle.vtl_time.specs.Periods.{YearPart, is_year_part, shift_of}
use Rattle.vtl_time.specs.declared.periods.Frequency.TheVariants.{Annual, Quarter, Month}
use Rattle.vtl_cell.specs.declared.cell.Cell.TheVariants.{Null, Int, Num, Text, Period}
use Rattle.vtl_cell.specs.declared.operator.AggKind.TheVariants.{Sum, Avg, Count, Min, Max, Median}
use Rattle.vtl_cell.specs.declared.operator.ScalarOp.TheVariants.{PeriodShift, PeriodFrequency}
use Rattle.vtl_decimal.specs.declared.number.Fault.TheVariants.{DivZero, Range}
use Rattle.vtl_cell.specs.Groups.{group_value, count_of_points, ratio_of}
use Rattle.vtl_cell.specs.Sorted.{Key, rising, by_keys, in_order, row_rank}
use Rattle.vtl_cell.specs.Frames.{UnboundedPreceding, Preceding, Current, Following, UnboundedFollowing, frame_of, first_cell, last_cell, lag_of, lead_of}
use Rattle.vtl_cell.specs.Outcome.{Outcome}
use Rattle.vtl_cell.specs.Row.{Row}
use Rattle.vtl_cell.specs.Scalars.{scalar_of}

abbrev scale_six : Settings
scale_six = record { scale = 6; rounding = HalfUp }

-- ---- groups. A number of scale 6 is written in millionths
abbrev large : List Cell
large = Int (pos 999999999999) ∷ Int (pos 999999999999) ∷ Int (negsuc 999999999998) ∷ []

sum_of_large : group_value scale_six Sum large ≡ Ok (Int (pos 999999999999))
sum_of_large = refl

mean_of_large : group_value scale_six Avg large ≡ Ok (Num (pos 333333333333000000))
mean_of_large = refl

median_of_large : group_value scale_six Median large ≡ Ok (Num (pos 999999999999000000))
median_of_large = refl

sum_out_of_range : group_value scale_six Sum (Int (pos 999999999999) ∷ Null ∷ Int (pos 1) ∷ []) ≡ Err Range
sum_out_of_range = refl

sum_of_numbers : group_value scale_six Sum (Num (pos 250000) ∷ Num (negsuc 499999) ∷ []) ≡ Ok (Num (negsuc 249999))
sum_of_numbers = refl

mean_rounded : group_value scale_six Avg (Int (pos 1) ∷ Int (pos 1) ∷ Int (pos 0) ∷ Null ∷ []) ≡ Ok (Num (pos 666667))
mean_rounded = refl

median_between : group_value scale_six Median (Int (pos 2) ∷ Int (pos 1) ∷ []) ≡ Ok (Num (pos 1500000))
median_between = refl

nothing_summed : group_value scale_six Sum (Null ∷ Null ∷ []) ≡ Ok Null
nothing_summed = refl

nothing_averaged : group_value scale_six Avg (Null ∷ []) ≡ Ok Null
nothing_averaged = refl

no_middle : group_value scale_six Median [] ≡ Ok Null
no_middle = refl

nothing_counted : group_value scale_six Count (Null ∷ Null ∷ []) ≡ Ok (Int (pos 0))
nothing_counted = refl

points_counted : count_of_points scale_six (Null ∷ Int (pos 3) ∷ []) ≡ Ok (Int (pos 2))
points_counted = refl

greatest_beside_null : group_value scale_six Max (Null ∷ Int (pos 3) ∷ Int (pos 1) ∷ []) ≡ Ok (Int (pos 3))
greatest_beside_null = refl

least_beside_null : group_value scale_six Min (Int (pos 3) ∷ Null ∷ Int (pos 1) ∷ []) ≡ Ok (Int (pos 1))
least_beside_null = refl

no_least : group_value scale_six Min (Null ∷ []) ≡ Ok Null
no_least = refl

third : ratio_of scale_six (Int (pos 1)) (Int (pos 1) ∷ Null ∷ Int (pos 2) ∷ []) ≡ Ok (Num (pos 333333))
third = refl

ratio_of_null : ratio_of scale_six Null (Int (pos 999999999999) ∷ Int (pos 1) ∷ []) ≡ Ok Null
ratio_of_null = refl

ratio_to_too_much : ratio_of scale_six (Int (pos 1)) (Int (pos 999999999999) ∷ Int (pos 1) ∷ []) ≡ Err Range
ratio_to_too_much = refl

ratio_to_zero : ratio_of scale_six (Int (pos 1)) (Int (pos 1) ∷ Int (negsuc 0) ∷ []) ≡ Err DivZero
ratio_to_zero = refl

-- ---- order
abbrev row : Cell → ℕ → Row
row x n = x ∷ Int (pos n) ∷ []

abbrev rows : List Row
rows = row (Int (pos 2)) 1 ∷ row Null 2 ∷ row (Int (pos 5)) 3 ∷ row (Int (pos 2)) 0 ∷ []

abbrev falling : ℕ → Key
falling i = record { place = i; falling = true }

rises : in_order (rising 0 ∷ []) (1 ∷ []) rows ≡ row Null 2 ∷ row (Int (pos 2)) 0 ∷ row (Int (pos 2)) 1 ∷ row (Int (pos 5)) 3 ∷ []
rises = refl

falls : in_order (falling 0 ∷ []) (1 ∷ []) rows ≡ row (Int (pos 5)) 3 ∷ row (Int (pos 2)) 0 ∷ row (Int (pos 2)) 1 ∷ row Null 2 ∷ []
falls = refl

ties : by_keys (rising 0 ∷ []) (row (Int (pos 2)) 0) (row (Int (pos 2)) 1) ≡ Equal
ties = refl

ranked_with_ties : row_rank scale_six (rising 0 ∷ []) (row (Int (pos 2)) 1) rows ≡ Ok (Int (pos 2))
ranked_with_ties = refl

ranked_falling : row_rank scale_six (falling 0 ∷ []) (row Null 2) rows ≡ Ok (Int (pos 4))
ranked_falling = refl

-- ---- frames
abbrev three : List ℕ
three = 10 ∷ 20 ∷ 30 ∷ []

around_the_first : frame_of (Preceding 1) (Following 1) 0 three ≡ 10 ∷ 20 ∷ []
around_the_first = refl

around_the_last : frame_of (Preceding 1) (Following 1) 2 three ≡ 20 ∷ 30 ∷ []
around_the_last = refl

start_behind_end : frame_of (Following 2) (Following 1) 0 three ≡ []
start_behind_end = refl

before_the_first : frame_of (Preceding 2) (Preceding 1) 0 three ≡ []
before_the_first = refl

behind_the_last : frame_of (Following 1) (Following 2) 2 three ≡ []
behind_the_last = refl

up_to_current : frame_of UnboundedPreceding Current 1 three ≡ 10 ∷ 20 ∷ []
up_to_current = refl

whole : frame_of UnboundedPreceding UnboundedFollowing 1 three ≡ three
whole = refl

last_row : frame_of UnboundedFollowing UnboundedFollowing 0 three ≡ 30 ∷ []
last_row = refl

first_row : frame_of UnboundedPreceding UnboundedPreceding 2 three ≡ 10 ∷ []
first_row = refl

no_first : first_cell [] ≡ Null
no_first = refl

last_is_null : last_cell (Int (pos 1) ∷ Null ∷ []) ≡ Null
last_is_null = refl

lag_has_a_place : lag_of 1 (Int (pos 7)) 1 (Null ∷ Int (pos 2) ∷ []) ≡ Null
lag_has_a_place = refl

lag_has_no_place : lag_of 2 (Int (pos 7)) 1 (Null ∷ Int (pos 2) ∷ []) ≡ Int (pos 7)
lag_has_no_place = refl

lead_has_a_place : lead_of 1 (Int (pos 7)) 0 (Null ∷ Int (pos 2) ∷ []) ≡ Int (pos 2)
lead_has_a_place = refl

lead_has_no_place : lead_of 1 (Int (pos 7)) 1 (Null ∷ Int (pos 2) ∷ []) ≡ Int (pos 7)
lead_has_no_place = refl

-- ---- periods
abbrev third_quarter : YearPart
third_quarter = record { frequency = Quarter; year = 2020; part = 3 }

abbrev last_month : YearPart
last_month = record { frequency = Month; year = 9999; part = 12 }

abbrev first_year : YearPart
first_year = record { frequency = Annual; year = 0; part = 1 }

abbrev shift_by : Cell → ℤ → Outcome Cell
shift_by q n = scalar_of scale_six PeriodShift (q ∷ Int n ∷ [])

two_quarters_later : shift_by (Period third_quarter) (pos 2) ≡ Ok (Period (record { frequency = Quarter; year = 2021; part = 1 }))
unfolding is_year_part shift_of
two_quarters_later = refl

three_quarters_earlier : shift_by (Period third_quarter) (negsuc 2) ≡ Ok (Period (record { frequency = Quarter; year = 2019; part = 4 }))
unfolding is_year_part shift_of
three_quarters_earlier = refl

shifted_by_none : shift_by (Period last_month) (pos 0) ≡ Ok (Period last_month)
unfolding is_year_part shift_of
shifted_by_none = refl

past_the_last_year : shift_by (Period last_month) (pos 1) ≡ Err Range
unfolding is_year_part shift_of
past_the_last_year = refl

before_the_first_year : shift_by (Period first_year) (negsuc 0) ≡ Err Range
unfolding is_year_part shift_of
before_the_first_year = refl

farthest_back : shift_by (Period last_month) (negsuc 999999) ≡ Err Range
unfolding is_year_part shift_of
farthest_back = refl

too_far : shift_by (Period third_quarter) (pos 1000001) ≡ Ok Null
too_far = refl

too_far_back : shift_by (Period third_quarter) (negsuc 1000000) ≡ Ok Null
too_far_back = refl

null_shifted : shift_by Null (pos 1) ≡ Ok Null
null_shifted = refl

shifted_by_null : scalar_of scale_six PeriodShift (Period third_quarter ∷ Null ∷ []) ≡ Ok Null
shifted_by_null = refl

no_period_shifted : shift_by (Int (pos 2020)) (pos 1) ≡ Ok Null
no_period_shifted = refl

letter_of_quarter : scalar_of scale_six PeriodFrequency (Period third_quarter ∷ []) ≡ Ok (Text (81 ∷ []))
letter_of_quarter = refl

letter_of_year : scalar_of scale_six PeriodFrequency (Period first_year ∷ []) ≡ Ok (Text (65 ∷ []))
letter_of_year = refl

letter_of_null : scalar_of scale_six PeriodFrequency (Null ∷ []) ≡ Ok Null
letter_of_null = refl
