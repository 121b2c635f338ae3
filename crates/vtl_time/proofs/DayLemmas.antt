-- Days of the calendar.
use Rattle.std.proofs.Common.{◌++◌, ◌≡◌, ℕ, ◌≤◌, Bool, true, false, cond, ◌&&◌, ◌==◌, nat_le, List, ◌∷◌, length, take, drop, get_or, Option, None, Some, option_and_then, IfSome, refl, sym, ap, subst, ◌∙◌, arith, lit≤, lit<, ◌||◌, ℤ, pos, to_z, w8, w16}
use Rattle.std.specs.Str.{IsAscii}
use Rattle.jiff.specs.Words.{IsDate, days_in_month as date_month_length}
use Rattle.std.proofs.lemmas.Bool.{false≢true, eqb-true, and_parts, false_from_ne_true}
use Rattle.std.proofs.lemmas.Bool.Decides.{nat_tests}
use Rattle.std.proofs.lemmas.Int.{ints, to_z_pos}
use Rattle.std.proofs.lemmas.List.{take-append-drop, drop-drop, drop_more, length-take-le, length-drop}
use Rattle.std.proofs.lemmas.Str.{IsAscii-append}
use Rattle.std.proofs.lemmas.Str.Ascii.{IsAscii-cons}
use Rattle.vtl_time.specs.Days.{CalendarDay, is_leap_year, days_in_month, is_calendar_day, day_of, day_text, has_day_shape, read_day_of}
use Rattle.vtl_time.specs.Numerals.{number_in_digits, two_digits, four_digits}
use Rattle.vtl_time.proofs.NumeralLemmas.{number_in_digits-two, number_in_digits-four, number_ascii, chosen_value, two_digits_are, four_digits_are}

five_hold : (y m d last : ℕ) → y ≤ 9999 → 1 ≤ m → m ≤ 12 → 1 ≤ d → d ≤ last → nat_le y 9999 && (nat_le 1 m && (nat_le m 12 && (nat_le 1 d && nat_le d last))) ≡ true
five_hold y m d last a b c e f = grind (arith, nat_tests)

pub record AreDayNumbers (y m d : ℕ) : Type 0 where
  pub year : y ≤ 9999
  pub month_from : 1 ≤ m
  pub month_to : m ≤ 12
  pub day_from : 1 ≤ d
  pub day_to : d ≤ days_in_month y m

five_are : (y m d last : ℕ) → nat_le y 9999 && (nat_le 1 m && (nat_le m 12 && (nat_le 1 d && nat_le d last))) ≡ true → (y ≤ 9999) × (1 ≤ m) × (m ≤ 12) × (1 ≤ d) × (d ≤ last)
five_are y m d last h =
    let a = and_parts (nat_le y 9999) _ h in
    let b = and_parts (nat_le 1 m) _ a.1 in
    let c = and_parts (nat_le m 12) _ b.1 in
    let e = and_parts (nat_le 1 d) _ c.1 in
    (grind (arith, nat_tests), grind (arith, nat_tests), grind (arith, nat_tests), grind (arith, nat_tests), grind (arith, nat_tests))

pub day_numbers : (y m d : ℕ) → is_calendar_day y m d ≡ true → AreDayNumbers y m d
unfolding is_calendar_day
day_numbers y m d h =
    let f = five_are y m d (days_in_month y m) h in
    record { year = f.0; month_from = f.1; month_to = f.2; day_from = f.3; day_to = f.4 }

month_length : (a b c : Bool) → cond a (cond b 29 28) (cond c 30 31) ≤ 31
month_length true true c = lit≤ tt
month_length true false c = lit≤ tt
month_length false b true = lit≤ tt
month_length false b false = lit≤ tt

-- no month is longer than 31 days
pub days_in_month_bound : (y m : ℕ) → days_in_month y m ≤ 31
days_in_month_bound y m = month_length (m == 2) (is_leap_year y) ((m == 4) || (m == 6) || (m == 9) || (m == 11))

same_length : (y m : ℕ) → date_month_length (pos y) m ≡ days_in_month y m
same_length y m = refl

-- the calendar of the library has the same days
pub date_from_day : (y m d : ℕ) → is_calendar_day y m d ≡ true → IsDate (pos y) (pos m) (pos d)
date_from_day y m d h =
    let f = day_numbers y m d h in
    ((omega (arith, ints), omega (arith, ints, f.year)), (omega (arith, ints, f.month_from), omega (arith, ints, f.month_to)), (omega (arith, ints, f.day_from), omega (arith, ints, f.day_to, same_length y m)))

pub day_from_date : (y m d : ℕ) → IsDate (pos y) (pos m) (pos d) → is_calendar_day y m d ≡ true
unfolding is_calendar_day
day_from_date y m d h = five_hold y m d (days_in_month y m) (omega (arith, ints, h.0)) (omega (arith, ints, h.1)) (omega (arith, ints, h.1)) (omega (arith, ints, h.2)) (omega (arith, ints, h.2, same_length y m))

abbrev day_with : ℕ → ℕ → ℕ → CalendarDay
day_with y m d = record { year = y; month = m; day = d }

-- the day with these numbers, and no day
pub day_of-some : (y m d : ℕ) → is_calendar_day y m d ≡ true → day_of y m d ≡ Some (record { year = y; month = m; day = d })
day_of-some y m d h = ap (λ b. cond b (Some (day_with y m d)) None) h

pub day_of-none : (y m d : ℕ) → is_calendar_day y m d ≡ false → day_of y m d ≡ None
day_of-none y m d h = ap (λ b. cond b (Some (day_with y m d)) None) h

shape_is : (n a b : ℕ) → n ≡ 10 → a ≡ 45 → b ≡ 45 → (n == 10) && ((a == 45) && (b == 45)) ≡ true
shape_is n a b p q r = grind (arith, nat_tests)

pub has_shape : (cs : List ℕ) → length cs ≡ 10 → get_or cs 4 0 ≡ 45 → get_or cs 7 0 ≡ 45 → has_day_shape cs ≡ true
has_shape cs p q r = shape_is (length cs) (get_or cs 4 0) (get_or cs 7 0) p q r

shape_parts : (n a b : ℕ) → (n == 10) && ((a == 45) && (b == 45)) ≡ true → (n ≡ 10) × (a ≡ 45) × (b ≡ 45)
shape_parts n a b h =
    let p = and_parts (n == 10) ((a == 45) && (b == 45)) h in
    let q = and_parts (a == 45) (b == 45) p.1 in
    (eqb-true n 10 p.0, eqb-true a 45 q.0, eqb-true b 45 q.1)

pub shape_of : (cs : List ℕ) → has_day_shape cs ≡ true → (length cs ≡ 10) × (get_or cs 4 0 ≡ 45) × (get_or cs 7 0 ≡ 45)
shape_of cs h = shape_parts (length cs) (get_or cs 4 0) (get_or cs 7 0) h

-- what follows the year, and what follows the month
abbrev after_month : List ℕ → ℕ → ℕ → Option CalendarDay
after_month cs y m = option_and_then (λ d. day_of y m d) (number_in_digits (drop 8 cs))

abbrev after_year : List ℕ → ℕ → Option CalendarDay
after_year cs y = option_and_then (λ m. after_month cs y m) (number_in_digits (take 2 (drop 5 cs)))

read_shaped : (cs : List ℕ) → has_day_shape cs ≡ true → read_day_of cs ≡ option_and_then (λ y. after_year cs y) (number_in_digits (take 4 cs))
unfolding read_day_of
read_shaped cs h = ap (λ b. cond b (option_and_then (λ y. after_year cs y) (number_in_digits (take 4 cs))) None) h

pub read_shapeless : (cs : List ℕ) → (has_day_shape cs ≡ true → ⊥) → read_day_of cs ≡ None
unfolding read_day_of
read_shapeless cs h = ap (λ b. cond b (option_and_then (λ y. after_year cs y) (number_in_digits (take 4 cs))) None) (false_from_ne_true (has_day_shape cs) h)

module _ (cs : List ℕ) (shape : has_day_shape cs ≡ true) where
  pub read_no_year : number_in_digits (take 4 cs) ≡ None → read_day_of cs ≡ None
  read_no_year p = read_shaped cs shape ∙ ap (option_and_then (λ y. after_year cs y)) p

  pub read_no_month : (y : ℕ) → number_in_digits (take 4 cs) ≡ Some y → number_in_digits (take 2 (drop 5 cs)) ≡ None → read_day_of cs ≡ None
  read_no_month y p q = read_shaped cs shape ∙ ap (option_and_then (λ k. after_year cs k)) p ∙ ap (option_and_then (λ m. after_month cs y m)) q

  pub read_no_day : (y m : ℕ) → number_in_digits (take 4 cs) ≡ Some y → number_in_digits (take 2 (drop 5 cs)) ≡ Some m → number_in_digits (drop 8 cs) ≡ None → read_day_of cs ≡ None
  read_no_day y m p q r =
      read_shaped cs shape ∙ ap (option_and_then (λ k. after_year cs k)) p ∙ ap (option_and_then (λ k. after_month cs y k)) q ∙ ap (option_and_then (λ d. day_of y m d)) r

  pub read_numbers : (y m d : ℕ) → number_in_digits (take 4 cs) ≡ Some y → number_in_digits (take 2 (drop 5 cs)) ≡ Some m → number_in_digits (drop 8 cs) ≡ Some d → read_day_of cs ≡ day_of y m d
  read_numbers y m d p q r =
      read_shaped cs shape ∙ ap (option_and_then (λ k. after_year cs k)) p ∙ ap (option_and_then (λ k. after_month cs y k)) q ∙ ap (option_and_then (λ k. day_of y m k)) r

-- a day's text reads as the day
pub reads_back : (d : CalendarDay) → is_calendar_day d.year d.month d.day ≡ true → read_day_of (day_text d) ≡ Some d
reads_back d h =
    let f = day_numbers d.year d.month d.day h in
    read_numbers (day_text d) refl d.year d.month d.day
    (number_in_digits-four d.year (omega (arith, f.year)))
    (number_in_digits-two d.month (omega (arith, f.month_to)))
    (number_in_digits-two d.day (omega (arith, f.day_to, days_in_month_bound d.year d.month)))
    ∙ day_of-some d.year d.month d.day h

some_of : {X : Type 0} (r : Option ℕ) (f : ℕ → Option X) (x : X) → option_and_then f r ≡ Some x → (n : ℕ) × (r ≡ Some n) × (f n ≡ Some x)
some_of None f x h = cc
some_of (Some n) f x h = (n, refl, h)

shape_chosen : (b : Bool) {X : Type 0} (r : Option X) (x : X) → cond b r None ≡ Some x → (b ≡ true) × (r ≡ Some x)
shape_chosen true r x h = (refl, h)
shape_chosen false r x h = cc

-- a text of the shape of a day
split_day : (cs : List ℕ) → has_day_shape cs ≡ true → cs ≡ take 4 cs ++ (45 ∷ (take 2 (drop 5 cs) ++ (45 ∷ drop 8 cs)))
split_day cs h =
    let shape = shape_of cs h in
    let at_four : drop 4 cs ≡ 45 ∷ drop 5 cs = drop_more cs 4 0 (omega (arith, shape.0)) ∙ ap (λ c. c ∷ drop 5 cs) shape.1 in
    let at_seven : drop 7 cs ≡ 45 ∷ drop 8 cs = drop_more cs 7 0 (omega (arith, shape.0)) ∙ ap (λ c. c ∷ drop 8 cs) shape.2 in
    let middle : drop 5 cs ≡ take 2 (drop 5 cs) ++ (45 ∷ drop 8 cs) =
    sym (take-append-drop 2 (drop 5 cs)) ∙ ap (λ l. take 2 (drop 5 cs) ++ l) (drop-drop 2 5 cs ∙ at_seven) in
    sym (take-append-drop 4 cs) ∙ ap (λ l. take 4 cs ++ l) (at_four ∙ ap (λ l. 45 ∷ l) middle)

-- the numbers of a day that was read
record IsRead (cs : List ℕ) (x : CalendarDay) : Type 0 where
  y : ℕ
  m : ℕ
  d : ℕ
  shape : has_day_shape cs ≡ true
  year : number_in_digits (take 4 cs) ≡ Some y
  month : number_in_digits (take 2 (drop 5 cs)) ≡ Some m
  day : number_in_digits (drop 8 cs) ≡ Some d
  is : day_of y m d ≡ Some x

is_read : (cs : List ℕ) (x : CalendarDay) → read_day_of cs ≡ Some x → IsRead cs x
unfolding read_day_of
is_read cs x h =
    let shaped = shape_chosen (has_day_shape cs) (option_and_then (λ y. after_year cs y) (number_in_digits (take 4 cs))) x h in
    let year = some_of (number_in_digits (take 4 cs)) (λ y. after_year cs y) x shaped.1 in
    let month = some_of (number_in_digits (take 2 (drop 5 cs))) (λ m. after_month cs year.0 m) x year.2 in
    let day = some_of (number_in_digits (drop 8 cs)) (λ d. day_of year.0 month.0 d) x month.2 in
    record { y = year.0; m = month.0; d = day.0; shape = shaped.0; year = year.1; month = month.1; day = day.1; is = day.2 }

pub read_day_ascii : (cs : List ℕ) (x : CalendarDay) → read_day_of cs ≡ Some x → IsAscii cs
read_day_ascii cs x h =
    let r = is_read cs x h in
    let last = IsAscii-cons 45 (drop 8 cs) (lit< tt) (number_ascii (drop 8 cs) r.d r.day) in
    let middle = IsAscii-append (take 2 (drop 5 cs)) (45 ∷ drop 8 cs) (number_ascii (take 2 (drop 5 cs)) r.m r.month) last in
    subst IsAscii (sym (split_day cs r.shape))
    (IsAscii-append (take 4 cs) (45 ∷ (take 2 (drop 5 cs) ++ (45 ∷ drop 8 cs))) (number_ascii (take 4 cs) r.y r.year) (IsAscii-cons 45 (take 2 (drop 5 cs) ++ (45 ∷ drop 8 cs)) (lit< tt) middle))

-- a day is read from its own text alone
pub read_day_text : (cs : List ℕ) (x : CalendarDay) → read_day_of cs ≡ Some x → cs ≡ day_text x
read_day_text cs x h =
    let r = is_read cs x h in
    let size = (shape_of cs r.shape).0 in
    let year = four_digits_are (take 4 cs) r.y (length-take-le 4 cs (omega (arith, size))) r.year in
    let month = two_digits_are (take 2 (drop 5 cs)) r.m (length-take-le 2 (drop 5 cs) (omega (arith, size, length-drop 5 cs))) r.month in
    let day = two_digits_are (drop 8 cs) r.d (omega (arith, size, length-drop 8 cs)) r.day in
    split_day cs r.shape
    ∙ ap (λ l. l ++ (45 ∷ (take 2 (drop 5 cs) ++ (45 ∷ drop 8 cs)))) year
    ∙ ap (λ l. four_digits r.y ++ (45 ∷ (l ++ (45 ∷ drop 8 cs)))) month
    ∙ ap (λ l. four_digits r.y ++ (45 ∷ (two_digits r.m ++ (45 ∷ l)))) day
    ∙ ap day_text (chosen_value (is_calendar_day r.y r.m r.d) (day_with r.y r.m r.d) x r.is)

-- the same date, of numbers that were cast
date_to : (y m d : ℕ) (a b c : ℤ) → a ≡ pos y → b ≡ pos m → c ≡ pos d → IsDate a b c → IsDate (pos y) (pos m) (pos d)
date_to y m d a b c p q r h = subst (λ k. IsDate (pos y) (pos m) k) r (subst (λ k. IsDate (pos y) k c) q (subst (λ k. IsDate k b c) p h))

date_back : (y m d : ℕ) (a b c : ℤ) → a ≡ pos y → b ≡ pos m → c ≡ pos d → IsDate (pos y) (pos m) (pos d) → IsDate a b c
date_back y m d a b c p q r h = subst (λ k. IsDate k b c) (sym p) (subst (λ k. IsDate (pos y) k c) (sym q) (subst (λ k. IsDate (pos y) (pos m) k) (sym r) h))

module _ (y m d : ℕ) (year : y ≤ 9999) (month : m ≤ 99) (day : d ≤ 99) where
  pub day_from_cast : IsDate (to_z w16 y) (to_z w8 m) (to_z w8 d) → is_calendar_day y m d ≡ true
  day_from_cast h =
      day_from_date y m d (date_to y m d _ _ _ (to_z_pos w16 y (omega arith)) (to_z_pos w8 m (omega arith)) (to_z_pos w8 d (omega arith)) h)

  pub no_day_from_cast : (IsDate (to_z w16 y) (to_z w8 m) (to_z w8 d) → false ≡ true) → is_calendar_day y m d ≡ false
  no_day_from_cast h =
      false_from_ne_true (is_calendar_day y m d) (λ is. false≢true (h (date_back y m d _ _ _ (to_z_pos w16 y (omega arith)) (to_z_pos w8 m (omega arith)) (to_z_pos w8 d (omega arith)) (date_from_day y m d is))))

-- what a read day says of the text that it was read from
pub text_of_read : (cs : List ℕ) (r : Option CalendarDay) → r ≡ read_day_of cs → IfSome r (λ d. cs ≡ day_text d)
text_of_read cs None is = tt
text_of_read cs (Some d) is = read_day_text cs d (sym is)
