-- The order of days by year, month and day is their order in time.
use Rattle.std.proofs.Common.{◌≡◌, ℕ, zero, suc, ◌+◌, ◌-◌, ◌<◌, ◌≤◌, true, refl, sym, ap, subst, ◌∙◌, arith, ⊎_elim, nat_cmp, add-zero, add_assoc}
use Rattle.std.specs.declared.cmp.Ordering.{Ordering}
use Rattle.std.specs.declared.cmp.Ordering.TheVariants.{Less, Equal, Greater}
use Rattle.std.specs.Ordering.{ordering_then}
use Rattle.std.proofs.lemmas.Bool.{cases_lt}
use Rattle.std.proofs.lemmas.Bool.Decides.{nat_tests}
use Rattle.vtl_time.specs.Days.{CalendarDay, days_in_month, days_of_months, days_of_years, day_number, is_calendar_day, day_cmp}
use Rattle.vtl_time.proofs.DayLemmas.{day_numbers}

month_more : (y m : ℕ) → 1 ≤ m → days_of_months y m ≡ days_of_months y (m - 1) + days_in_month y m
unfolding days_of_months
month_more y zero some = absurd (omega arith)
month_more y (suc n) some = ap (λ k. days_of_months y k + days_in_month y (suc n)) (omega arith)

months_rise : (y m k : ℕ) → days_of_months y m ≤ days_of_months y (m + k)
months_rise y m zero = omega (arith, ap (days_of_months y) (add-zero m))
months_rise y m (suc k) =
    let more = month_more y (m + suc k) (omega arith) in
    let one : m + suc k - 1 ≡ m + k = omega arith in
    omega (arith, months_rise y m k, more, ap (days_of_months y) one)

months_below : (y m n : ℕ) → m ≤ n → days_of_months y m ≤ days_of_months y n
months_below y m n le = subst (λ k. days_of_months y m ≤ days_of_months y k) (omega arith) (months_rise y m (n - m))

year_more : (n : ℕ) → days_of_years (suc n) ≡ days_of_years n + days_of_months n 12
unfolding days_of_years
year_more n = refl

years_rise : (n k : ℕ) → days_of_years n + days_of_months n 12 ≤ days_of_years (suc n + k)
years_rise n zero = omega (arith, year_more n, ap days_of_years (add-zero (suc n)))
years_rise n (suc k) =
    let one : suc n + suc k ≡ suc (suc n + k) = omega arith in
    omega (arith, years_rise n k, year_more (suc n + k), ap days_of_years one)

years_below : (n later : ℕ) → n < later → days_of_years n + days_of_months n 12 ≤ days_of_years later
years_below n later lt = subst (λ k. days_of_years n + days_of_months n 12 ≤ days_of_years k) (omega arith) (years_rise n (later - suc n))

abbrev in_year : ℕ → ℕ → ℕ → ℕ
in_year y m d = days_of_months y (m - 1) + (d - 1)

-- a day lies within its month, and so within its year
within_month : (y m d : ℕ) → is_calendar_day y m d ≡ true → in_year y m d < days_of_months y m
within_month y m d h =
    let is = day_numbers y m d h in
    omega (arith, is.month_from, is.day_from, is.day_to, month_more y m is.month_from)

within_year : (y m d : ℕ) → is_calendar_day y m d ≡ true → in_year y m d < days_of_months y 12
within_year y m d h = omega (arith, within_month y m d h, months_below y m 12 (day_numbers y m d h).month_to)

day_number_is : (d : CalendarDay) → day_number d ≡ days_of_years d.year + in_year d.year d.month d.day
unfolding day_number
day_number_is d = omega arith

is_less : (a b : ℕ) → a < b → nat_cmp a b ≡ Less
is_less a b h = grind (arith, nat_tests)

is_greater : (a b : ℕ) → b < a → nat_cmp a b ≡ Greater
is_greater a b h = grind (arith, nat_tests)

is_tied : (a b : ℕ) → a ≡ b → nat_cmp a b ≡ Equal
is_tied a b h = grind (arith, nat_tests)

-- the first numbers decide, and where they are one, what follows does
first_decides : (a b x y : ℕ) (o : Ordering) → (a < b → x < y) → (b < a → y < x) → (a ≡ b → o ≡ nat_cmp x y) → ordering_then (nat_cmp a b) o ≡ nat_cmp x y
first_decides a b x y o below above tied =
    ⊎_elim (λ lt. ap (λ k. ordering_then k o) (is_less a b lt) ∙ sym (is_less x y (below lt)))
    (λ ge. ⊎_elim (λ gt. ap (λ k. ordering_then k o) (is_greater a b gt) ∙ sym (is_greater x y (above gt)))
    (λ le. let same : a ≡ b = omega arith in ap (λ k. ordering_then k o) (is_tied a b same) ∙ tied same) (cases_lt b a)) (cases_lt a b)

shifted_days : (k a b : ℕ) → 1 ≤ a → 1 ≤ b → nat_cmp a b ≡ nat_cmp (k + (a - 1)) (k + (b - 1))
shifted_days k a b p q = grind (arith, nat_tests)

earlier_month : (y m d n e : ℕ) → is_calendar_day y m d ≡ true → is_calendar_day y n e ≡ true → m < n → in_year y m d < in_year y n e
earlier_month y m d n e p q lt = omega (arith, within_month y m d p, months_below y m (n - 1) (omega arith))

same_year : (y m d n e : ℕ) → is_calendar_day y m d ≡ true → is_calendar_day y n e ≡ true
    → ordering_then (nat_cmp m n) (nat_cmp d e) ≡ nat_cmp (days_of_years y + in_year y m d) (days_of_years y + in_year y n e)
same_year y m d n e p q =
    first_decides m n (days_of_years y + in_year y m d) (days_of_years y + in_year y n e) (nat_cmp d e)
    (λ lt. omega (arith, earlier_month y m d n e p q lt)) (λ gt. omega (arith, earlier_month y n e m d q p gt))
    (λ same.
    shifted_days (days_of_years y + days_of_months y (m - 1)) d e (day_numbers y m d p).day_from (day_numbers y n e q).day_from
    ∙ ap (λ k. nat_cmp k (days_of_years y + days_of_months y (m - 1) + (e - 1))) (add_assoc (days_of_years y) (days_of_months y (m - 1)) (d - 1))
    ∙ ap (nat_cmp (days_of_years y + in_year y m d)) (add_assoc (days_of_years y) (days_of_months y (m - 1)) (e - 1) ∙ ap (λ k. days_of_years y + in_year y k e) same))

by_fields : (x m d y n e : ℕ) → is_calendar_day x m d ≡ true → is_calendar_day y n e ≡ true
    → ordering_then (nat_cmp x y) (ordering_then (nat_cmp m n) (nat_cmp d e)) ≡ nat_cmp (days_of_years x + in_year x m d) (days_of_years y + in_year y n e)
by_fields x m d y n e p q =
    first_decides x y (days_of_years x + in_year x m d) (days_of_years y + in_year y n e) (ordering_then (nat_cmp m n) (nat_cmp d e))
    (λ lt. omega (arith, within_year x m d p, years_below x y lt)) (λ gt. omega (arith, within_year y n e q, years_below y x gt))
    (λ same.
    same_year x m d n e p (subst (λ k. is_calendar_day k n e ≡ true) (sym same) q)
    ∙ ap (λ k. nat_cmp (days_of_years x + in_year x m d) (days_of_years k + in_year k n e)) same)

pub day_cmp-number : (a b : CalendarDay) → is_calendar_day a.year a.month a.day ≡ true → is_calendar_day b.year b.month b.day ≡ true → day_cmp a b ≡ nat_cmp (day_number a) (day_number b)
day_cmp-number a b p q =
    by_fields a.year a.month a.day b.year b.month b.day p q
    ∙ ap (λ k. nat_cmp k (days_of_years b.year + in_year b.year b.month b.day)) (sym (day_number_is a)) ∙ ap (nat_cmp (day_number a)) (sym (day_number_is b))
