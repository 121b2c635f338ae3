-- Periods of time.
use Rattle.std.proofs.Common.{◌++◌, IfSome, ◌≡◌, ℕ, suc, ◌+◌, ◌-◌, ◌*◌, ◌/◌, ◌%◌, ◌^◌, ◌<◌, ◌≤◌, Bool, true, false, cond, ◌&&◌, ◌==◌, nat_le, nat_lt, List, [], ◌∷◌, length, take, drop, Option, None, Some, option_and_then, refl, sym, ap, subst, ◌∙◌, arith, lit<, ◌⊎◌, inl, inr, ⊎_elim, ℤ, pos, negsuc, neg_ℤ, ◌+ℤ◌, ◌≤ℤ◌, unsigned_abs, FitsSigned, to_z, of_z, w64}
use Rattle.std.specs.declared.cmp.Ordering.{Ordering}
use Rattle.std.specs.Ordering.{ordering_then, nat_cmp, int_cmp}
use Rattle.std.specs.Int.{FitsUnsigned}
use Rattle.std.specs.Str.{IsAscii}
use Rattle.std.proofs.lemmas.Bool.{cases_Bool, eqb-true, eq-eqb, and_parts, false_from_ne_true}
use borrow.Author.Tests.{leb-true}
use Rattle.std.proofs.lemmas.List.{take-append-drop, length-take-le}
use Rattle.std.proofs.lemmas.Str.{IsAscii-append}
use Rattle.std.proofs.lemmas.Str.Ascii.{IsAscii-nil, IsAscii-cons}
use Rattle.std.proofs.lemmas.Bool.Decides.{nat_tests}
use Rattle.std.proofs.lemmas.Int.{ints, to_z-of_z}
use Rattle.std.proofs.lemmas.Nat.{div-mul-add, mod-mul-add, div-add-mod', mul-add-lt, div_below, mod_below}
use Rattle.vtl_time.specs.declared.periods.Frequency.{Frequency}
use Rattle.vtl_time.specs.declared.periods.Frequency.TheVariants.{Annual, Semester, Quarter, Month}
use Rattle.vtl_time.specs.Numerals.{number_in_digits, two_digits, four_digits}
use Rattle.vtl_time.specs.Periods.{YearPart, parts_in_year, is_year_part, period_of, period_cmp, frequency_rank, index_of, period_at, period_within, shift_of, period_text, part_text, short_part_text, SpellsPeriod, letter_of, width_of, numbered_part_of, part_of, behind_year, read_period_of}
use Rattle.vtl_time.proofs.NumeralLemmas.{number_in_digits-one, number_in_digits-two, number_in_digits-four, number_ascii, chosen_value, one_digit_is, two_digits_are, four_digits_are}

pub parts_from : (f : Frequency) → 1 ≤ parts_in_year f
parts_from Annual = omega arith
parts_from Semester = omega arith
parts_from Quarter = omega arith
parts_from Month = omega arith

pub parts_to : (f : Frequency) → parts_in_year f ≤ 12
parts_to Annual = omega arith
parts_to Semester = omega arith
parts_to Quarter = omega arith
parts_to Month = omega arith

pub record ArePartNumbers (f : Frequency) (y n : ℕ) : Type 0 where
  pub year : y ≤ 9999
  pub from : 1 ≤ n
  pub to : n ≤ parts_in_year f

three_are : (y n last : ℕ) → nat_le y 9999 && (nat_le 1 n && nat_le n last) ≡ true → (y ≤ 9999) × (1 ≤ n) × (n ≤ last)
three_are y n last h =
    let a = and_parts (nat_le y 9999) _ h in
    let b = and_parts (nat_le 1 n) _ a.1 in
    (grind (arith, nat_tests), grind (arith, nat_tests), grind (arith, nat_tests))

three_hold : (y n last : ℕ) → y ≤ 9999 → 1 ≤ n → n ≤ last → nat_le y 9999 && (nat_le 1 n && nat_le n last) ≡ true
three_hold y n last a b c = grind (arith, nat_tests)

pub part_numbers : (f : Frequency) (y n : ℕ) → is_year_part f y n ≡ true → ArePartNumbers f y n
unfolding is_year_part
part_numbers f y n h =
    let t = three_are y n (parts_in_year f) h in
    record { year = t.0; from = t.1; to = t.2 }

pub part_holds : (f : Frequency) (y n : ℕ) → y ≤ 9999 → 1 ≤ n → n ≤ parts_in_year f → is_year_part f y n ≡ true
unfolding is_year_part
part_holds f y n a b c = three_hold y n (parts_in_year f) a b c

abbrev pub IsPart : YearPart → Type 0
IsPart p = is_year_part p.frequency p.year p.part ≡ true

abbrev part_with : Frequency → ℕ → ℕ → YearPart
part_with f y n = record { frequency = f; year = y; part = n }

at_least : (a b : ℕ) → a ≤ b → nat_le a b ≡ true
at_least a b h = grind (arith, nat_tests)

less_than : (a b : ℕ) → b < a → nat_le a b ≡ false
less_than a b h = grind (arith, nat_tests)

below_true : (a b : ℕ) → a < b → nat_lt a b ≡ true
below_true a b h = grind (arith, nat_tests)

below_false : (a b : ℕ) → b ≤ a → nat_lt a b ≡ false
below_false a b h = grind (arith, nat_tests)

past_words : (f : Frequency) (i : ℕ) → ¬ (i < 2 ^ 64) → 10000 * parts_in_year f ≤ i
past_words f i out = omega (arith, parts_to f)

none_within : (f : Frequency) (z : ℤ) → ¬ FitsUnsigned w64 z → period_within f z ≡ None
none_within f (pos i) out =
    ap (λ b. cond b (Some (period_at f i)) None) (below_false i (10000 * parts_in_year f) (past_words f i (λ small. out (omega (arith, ints), omega (arith, ints)))))
none_within f (negsuc i) out = refl

same_part : (f : Frequency) (y y' n n' : ℕ) → y ≡ y' → n ≡ n' → ◌≡◌ {A = YearPart} (record { frequency = f; year = y; part = n }) (record { frequency = f; year = y'; part = n' })
same_part f y y' n n' a b = ap (λ (k : ℕ). part_with f k n) a ∙ ap (λ (k : ℕ). part_with f y' k) b

-- the index of a period, and the period at an index, undo each other
pub index_below : (p : YearPart) → IsPart p → index_of p < 10000 * parts_in_year p.frequency
index_below p h =
    let is = part_numbers p.frequency p.year p.part h in
    omega (arith, mul-add-lt p.year (parts_in_year p.frequency) (p.part - 1) 10000 (omega (arith, is.year)) (omega (arith, is.from, is.to)))

pub period_at-index : (p : YearPart) → IsPart p → period_at p.frequency (index_of p) ≡ p
period_at-index p h =
    let is = part_numbers p.frequency p.year p.part h in
    let small : p.part - 1 < parts_in_year p.frequency = omega (arith, is.from, is.to) in
    same_part p.frequency _ p.year _ p.part (div-mul-add p.year (parts_in_year p.frequency) (p.part - 1) small)
    (omega (arith, is.from, mod-mul-add p.year (parts_in_year p.frequency) (p.part - 1) small))

pub index-period_at : (f : Frequency) (i : ℕ) → index_of (period_at f i) ≡ i
index-period_at f i = omega (arith, div-add-mod' i (parts_in_year f))

pub period_at_is : (f : Frequency) (i : ℕ) → i < 10000 * parts_in_year f → IsPart (period_at f i)
period_at_is f i below =
    let some = parts_from f in
    part_holds f (i / parts_in_year f) (i % parts_in_year f + 1) (omega (arith, div_below i (parts_in_year f) 10000 some below)) (omega arith) (omega (arith, mod_below i (parts_in_year f) some))

-- the periods of a frequency stand in the order of their indexes
by_index : (f : Frequency) (y n z m : ℕ) → 1 ≤ n → n ≤ parts_in_year f → 1 ≤ m → m ≤ parts_in_year f
    → ordering_then (nat_cmp y z) (nat_cmp n m) ≡ nat_cmp (y * parts_in_year f + (n - 1)) (z * parts_in_year f + (m - 1))
by_index Annual y n z m a b c d = grind (arith, nat_tests)
by_index Semester y n z m a b c d = grind (arith, nat_tests)
by_index Quarter y n z m a b c d = grind (arith, nat_tests)
by_index Month y n z m a b c d = grind (arith, nat_tests)

same_rank : (f : Frequency) (o : Ordering) → ordering_then (nat_cmp (frequency_rank f) (frequency_rank f)) o ≡ o
same_rank Annual o = refl
same_rank Semester o = refl
same_rank Quarter o = refl
same_rank Month o = refl

pub period_cmp-index : (f : Frequency) (y n z m : ℕ) → is_year_part f y n ≡ true → is_year_part f z m ≡ true
    → period_cmp (record { frequency = f; year = y; part = n }) (record { frequency = f; year = z; part = m }) ≡ nat_cmp (index_of (record { frequency = f; year = y; part = n })) (index_of (record { frequency = f; year = z; part = m }))
period_cmp-index f y n z m p q =
    let a = part_numbers f y n p in
    let b = part_numbers f z m q in
    same_rank f _ ∙ by_index f y n z m a.from a.to b.from b.to

-- what a shift gives
pub record IsShifted (p q : YearPart) (n : ℤ) (i : ℕ) : Type 0 where
  pub sum : pos (index_of p) +ℤ n ≡ pos i
  pub below : i < 10000 * parts_in_year p.frequency
  pub period : q ≡ period_at p.frequency i

-- a part of a year is shifted by its index
pub shift_is : (p : YearPart) (n : ℤ) → IsPart p → shift_of p n ≡ period_within p.frequency (pos (index_of p) +ℤ n)
unfolding shift_of
shift_is p n h = ap (λ b. cond b (period_within p.frequency (pos (index_of p) +ℤ n)) None) h

back_to : (p : YearPart) (n : ℤ) (i : ℕ) → IsPart p → i < 10000 * parts_in_year p.frequency → pos (index_of p) +ℤ n ≡ pos i → shift_of (period_at p.frequency i) (neg_ℤ n) ≡ Some p
back_to p n i h below sum =
    let index = index-period_at p.frequency i in
    let back : pos (index_of (period_at p.frequency i)) +ℤ neg_ℤ n ≡ pos (index_of p) = ap (λ k. pos k +ℤ neg_ℤ n) index ∙ omega (arith, ints, sum) in
    shift_is (period_at p.frequency i) (neg_ℤ n) (period_at_is p.frequency i below)
    ∙ ap (period_within p.frequency) back
    ∙ ap (λ b. cond b (Some (period_at p.frequency (index_of p))) None) (below_true (index_of p) (10000 * parts_in_year p.frequency) (index_below p h))
    ∙ ap Some (period_at-index p h)

pub shift_back : (p q : YearPart) (n : ℤ) (i : ℕ) → IsPart p → IsShifted p q n i → shift_of q (neg_ℤ n) ≡ Some p
shift_back p q n i h s = ap (λ k. shift_of k (neg_ℤ n)) s.period ∙ back_to p n i h s.below s.sum

step_order : (i j : ℕ) (n : ℤ) → pos i +ℤ n ≡ pos j → nat_cmp i j ≡ int_cmp (pos 0) n
step_order i j (pos k) sum = let e : i + k ≡ j = omega (arith, ints, sum) in grind (arith, nat_tests)
step_order i j (negsuc k) sum = let e : i ≡ j + suc k = omega (arith, ints, sum) in grind (arith, nat_tests)

pub shift_order : (p q : YearPart) (n : ℤ) (i : ℕ) → IsPart p → IsShifted p q n i → period_cmp p q ≡ int_cmp (pos 0) n
shift_order p q n i h s =
    let f = p.frequency in
    ap (period_cmp p) s.period
    ∙ period_cmp-index f p.year p.part (i / parts_in_year f) (i % parts_in_year f + 1) h (period_at_is f i s.below)
    ∙ ap (nat_cmp (index_of p)) (index-period_at f i)
    ∙ step_order (index_of p) i n s.sum

pub shift_of-some : (p : YearPart) (n : ℤ) (i : ℕ) → IsPart p → pos (index_of p) +ℤ n ≡ pos i → i < 10000 * parts_in_year p.frequency → shift_of p n ≡ Some (period_at p.frequency i)
shift_of-some p n i h sum below =
    shift_is p n h
    ∙ ap (period_within p.frequency) sum
    ∙ ap (λ b. cond b (Some (period_at p.frequency i)) None) (below_true i (10000 * parts_in_year p.frequency) below)

pub shift_of-past : (p : YearPart) (n : ℤ) (i : ℕ) → IsPart p → pos (index_of p) +ℤ n ≡ pos i → 10000 * parts_in_year p.frequency ≤ i → shift_of p n ≡ None
shift_of-past p n i h sum past =
    shift_is p n h
    ∙ ap (period_within p.frequency) sum
    ∙ ap (λ b. cond b (Some (period_at p.frequency i)) None) (below_false i (10000 * parts_in_year p.frequency) past)

-- no machine word holds the index of a period before the year 0
pub shift_of-none : (p : YearPart) (n : ℤ) → IsPart p → ¬ FitsUnsigned w64 (pos (index_of p) +ℤ n) → shift_of p n ≡ None
shift_of-none p n h out = shift_is p n h ∙ none_within p.frequency (pos (index_of p) +ℤ n) out

-- the period with these numbers, and no period
pub period_of-some : (f : Frequency) (y n : ℕ) → is_year_part f y n ≡ true → period_of f y n ≡ Some (record { frequency = f; year = y; part = n })
period_of-some f y n h = ap (λ b. cond b (Some (part_with f y n)) None) h

pub period_of-none : (f : Frequency) (y n : ℕ) → (is_year_part f y n ≡ true → ⊥) → period_of f y n ≡ None
period_of-none f y n h = ap (λ b. cond b (Some (part_with f y n)) None) (false_from_ne_true (is_year_part f y n) h)

-- a text of at least four characters, by its year and by what follows
pub read_long : (cs : List ℕ) → 4 ≤ length cs → read_period_of cs ≡ option_and_then (λ y. behind_year y (drop 4 cs)) (number_in_digits (take 4 cs))
unfolding read_period_of
read_long cs long = ap (λ b. cond b (option_and_then (λ y. behind_year y (drop 4 cs)) (number_in_digits (take 4 cs))) None) (at_least 4 (length cs) long)

pub read_short : (cs : List ℕ) → length cs < 4 → read_period_of cs ≡ None
unfolding read_period_of
read_short cs short = ap (λ b. cond b (option_and_then (λ y. behind_year y (drop 4 cs)) (number_in_digits (take 4 cs))) None) (less_than 4 (length cs) short)

-- a period's text reads as the period
numbered : (f : Frequency) (y n : ℕ) (cs : List ℕ) → length cs ≡ width_of f → number_in_digits cs ≡ Some n → is_year_part f y n ≡ true → numbered_part_of f y cs ≡ Some (part_with f y n)
numbered f y n cs width number h =
    ap (λ b. cond b (option_and_then (λ k. period_of f y k) (number_in_digits cs)) None) (eq-eqb (length cs) (width_of f) width)
    ∙ ap (option_and_then (λ k. period_of f y k)) number ∙ period_of-some f y n h

rest_reads : (f : Frequency) (y n : ℕ) → is_year_part f y n ≡ true → behind_year y (45 ∷ (letter_of f ∷ part_text f n)) ≡ Some (part_with f y n)
rest_reads Annual y n h = numbered Annual y n ((48 + n) ∷ []) refl (number_in_digits-one n (omega (arith, (part_numbers Annual y n h).to))) h
rest_reads Semester y n h = numbered Semester y n ((48 + n) ∷ []) refl (number_in_digits-one n (omega (arith, (part_numbers Semester y n h).to))) h
rest_reads Quarter y n h = numbered Quarter y n ((48 + n) ∷ []) refl (number_in_digits-one n (omega (arith, (part_numbers Quarter y n h).to))) h
rest_reads Month y n h = numbered Month y n (two_digits n) refl (number_in_digits-two n (omega (arith, (part_numbers Month y n h).to))) h

pub reads_back : (p : YearPart) → IsPart p → read_period_of (period_text p) ≡ Some p
reads_back p h =
    read_long (period_text p) (omega arith)
    ∙ ap (option_and_then (λ y. behind_year y (45 ∷ (letter_of p.frequency ∷ part_text p.frequency p.part)))) (number_in_digits-four p.year (omega (arith, (part_numbers p.frequency p.year p.part h).year)))
    ∙ rest_reads p.frequency p.year p.part h

-- a text that is read is ASCII
some_of : {X : Type 0} (r : Option ℕ) (f : ℕ → Option X) (x : X) → option_and_then f r ≡ Some x → (n : ℕ) × (r ≡ Some n) × (f n ≡ Some x)
some_of None f x h = cc
some_of (Some n) f x h = (n, refl, h)

pub if_some : {X : Type 0} (b : Bool) (r : Option X) (x : X) → cond b r None ≡ Some x → (b ≡ true) × (r ≡ Some x)
if_some true r x h = (refl, h)
if_some false r x h = cc

numbered_ascii : (f : Frequency) (y : ℕ) (cs : List ℕ) (x : YearPart) → numbered_part_of f y cs ≡ Some x → IsAscii cs
numbered_ascii f y cs x h =
    let wide = if_some (length cs == width_of f) (option_and_then (λ n. period_of f y n) (number_in_digits cs)) x h in
    let number = some_of (number_in_digits cs) (λ n. period_of f y n) x wide.1 in
    number_ascii cs number.0 number.1

-- a letter of its own, or what stands for any other character
lettered : (c k : ℕ) (cs : List ℕ) (x : YearPart) (r s : Option YearPart) → k < 128 → (r ≡ Some x → IsAscii cs) → (s ≡ Some x → IsAscii (c ∷ cs)) → cond (c == k) r s ≡ Some x → IsAscii (c ∷ cs)
lettered c k cs x r s small here there h =
    ⊎_elim (λ same. IsAscii-cons c cs (subst (λ j. j < 128) (sym (eqb-true c k same)) small) (here (sym (ap (λ b. cond b r s) same) ∙ h)))
    (λ other. there (sym (ap (λ b. cond b r s) other) ∙ h)) (cases_Bool (c == k))

part_ascii : (y : ℕ) (cs : List ℕ) (x : YearPart) → part_of y cs ≡ Some x → IsAscii cs
part_ascii y [] x h = cc
part_ascii y (c ∷ cs) x h =
    let month = numbered_part_of Month y (c ∷ cs) in
    let by_m = cond (c == 77) (numbered_part_of Month y cs) month in
    let by_q = cond (c == 81) (numbered_part_of Quarter y cs) by_m in
    let by_s = cond (c == 83) (numbered_part_of Semester y cs) by_q in
    lettered c 65 cs x (numbered_part_of Annual y cs) by_s (lit< tt) (numbered_ascii Annual y cs x)
    (lettered c 83 cs x (numbered_part_of Semester y cs) by_q (lit< tt) (numbered_ascii Semester y cs x)
    (lettered c 81 cs x (numbered_part_of Quarter y cs) by_m (lit< tt) (numbered_ascii Quarter y cs x)
    (lettered c 77 cs x (numbered_part_of Month y cs) month (lit< tt) (numbered_ascii Month y cs x) (numbered_ascii Month y (c ∷ cs) x)))) h

rest_ascii : (y : ℕ) (cs : List ℕ) (x : YearPart) → behind_year y cs ≡ Some x → IsAscii cs
rest_ascii y [] x h = IsAscii-nil
rest_ascii y (c ∷ cs) x h =
    let dash = if_some (c == 45) (part_of y cs) x h in
    IsAscii-cons c cs (subst (λ k. k < 128) (sym (eqb-true c 45 dash.0)) (lit< tt)) (part_ascii y cs x dash.1)

pub read_period_ascii : (cs : List ℕ) (x : YearPart) → read_period_of cs ≡ Some x → IsAscii cs
unfolding read_period_of
read_period_ascii cs x h =
    let long = if_some (nat_le 4 (length cs)) (option_and_then (λ y. behind_year y (drop 4 cs)) (number_in_digits (take 4 cs))) x h in
    let year = some_of (number_in_digits (take 4 cs)) (λ y. behind_year y (drop 4 cs)) x long.1 in
    subst IsAscii (take-append-drop 4 cs) (IsAscii-append (take 4 cs) (drop 4 cs) (number_ascii (take 4 cs) year.0 year.1) (rest_ascii year.0 (drop 4 cs) x year.2))

-- the sum that a machine word holds
from_abs : (z : ℤ) (i : ℕ) → pos 0 ≤ℤ z → i ≡ unsigned_abs z → z ≡ pos i
from_abs (pos k) i low is = ap pos (sym is)
from_abs (negsuc k) i low is = absurd (omega (arith, ints, low))

module _ (p : YearPart) (n : ℤ) (i : ℕ) (fits : FitsSigned w64 n) (i_is : i ≡ index_of p) where
  same_sum : pos i +ℤ to_z w64 (of_z w64 n) ≡ pos (index_of p) +ℤ n
  same_sum = ap (λ k. pos i +ℤ k) (to_z-of_z w64 n fits) ∙ ap (λ k. pos k +ℤ n) i_is

  pub sum_is : (j : ℕ) → FitsUnsigned w64 (pos i +ℤ to_z w64 (of_z w64 n)) → j ≡ unsigned_abs (pos i +ℤ to_z w64 (of_z w64 n)) → pos (index_of p) +ℤ n ≡ pos j
  sum_is j within is = sym same_sum ∙ from_abs _ j within.0 is

  pub no_sum : IsPart p → ¬ FitsUnsigned w64 (pos i +ℤ to_z w64 (of_z w64 n)) → shift_of p n ≡ None
  no_sum h out = shift_of-none p n h (subst (λ z. ¬ FitsUnsigned w64 z) same_sum out)

-- no part of a year but a month has two digits
pub short_part : (f : Frequency) (y n : ℕ) → parts_in_year f ≤ 9 → is_year_part f y n ≡ true → n ≤ 9
short_part f y n few h = omega (arith, (part_numbers f y n h).to)

-- a period is read from its spellings alone
part_is : (f : Frequency) (y n : ℕ) (x : YearPart) → period_of f y n ≡ Some x → part_with f y n ≡ x
part_is f y n x h = chosen_value (is_year_part f y n) (part_with f y n) x h

record IsNumbered (f : Frequency) (y : ℕ) (cs : List ℕ) (x : YearPart) : Type 0 where
  n : ℕ
  width : length cs ≡ width_of f
  number : number_in_digits cs ≡ Some n
  is : part_with f y n ≡ x

is_numbered : (f : Frequency) (y : ℕ) (cs : List ℕ) (x : YearPart) → numbered_part_of f y cs ≡ Some x → IsNumbered f y cs x
is_numbered f y cs x h =
    let wide = if_some (length cs == width_of f) (option_and_then (λ n. period_of f y n) (number_in_digits cs)) x h in
    let number = some_of (number_in_digits cs) (λ n. period_of f y n) x wide.1 in
    record { n = number.0; width = eqb-true (length cs) (width_of f) wide.0; number = number.1; is = part_is f y number.0 x number.2 }

numbered_text : (f : Frequency) (n : ℕ) (cs : List ℕ) → length cs ≡ width_of f → number_in_digits cs ≡ Some n → cs ≡ part_text f n
numbered_text Annual n cs width number = one_digit_is cs n width number
numbered_text Semester n cs width number = one_digit_is cs n width number
numbered_text Quarter n cs width number = one_digit_is cs n width number
numbered_text Month n cs width number = two_digits_are cs n width number

-- the text after the year, of a period of the year y
abbrev SpellsRest : ℕ → List ℕ → YearPart → Type 0
SpellsRest y cs p = (p.year ≡ y) × ((cs ≡ 45 ∷ (letter_of p.frequency ∷ part_text p.frequency p.part)) ⊎ (cs ≡ short_part_text p.frequency p.part))

lettered_spells : (f : Frequency) (y c : ℕ) (cs : List ℕ) (x : YearPart) → c ≡ letter_of f → numbered_part_of f y cs ≡ Some x → SpellsRest y (45 ∷ (c ∷ cs)) x
lettered_spells f y c cs x letter h =
    let r = is_numbered f y cs x h in
    let text : ◌≡◌ {A = List ℕ} (45 ∷ (c ∷ cs)) (45 ∷ (letter_of f ∷ part_text f r.n)) =
    ap (λ k. 45 ∷ (k ∷ cs)) letter ∙ ap (λ l. 45 ∷ (letter_of f ∷ l)) (numbered_text f r.n cs r.width r.number) in
    subst (λ p. SpellsRest y (45 ∷ (c ∷ cs)) p) r.is (refl, inl text)

month_spells : (y : ℕ) (cs : List ℕ) (x : YearPart) → numbered_part_of Month y cs ≡ Some x → SpellsRest y (45 ∷ cs) x
month_spells y cs x h =
    let r = is_numbered Month y cs x h in
    let text : ◌≡◌ {A = List ℕ} (45 ∷ cs) (45 ∷ two_digits r.n) = ap (λ l. 45 ∷ l) (two_digits_are cs r.n r.width r.number) in
    subst (λ p. SpellsRest y (45 ∷ cs) p) r.is (refl, inr text)

by_letter : (c k : ℕ) (x : YearPart) (r s : Option YearPart) (P : Type 0) → (c ≡ k → r ≡ Some x → P) → (s ≡ Some x → P) → cond (c == k) r s ≡ Some x → P
by_letter c k x r s P here there h =
    ⊎_elim (λ same. here (eqb-true c k same) (sym (ap (λ b. cond b r s) same) ∙ h))
    (λ other. there (sym (ap (λ b. cond b r s) other) ∙ h)) (cases_Bool (c == k))

part_spells : (y : ℕ) (cs : List ℕ) (x : YearPart) → part_of y cs ≡ Some x → SpellsRest y (45 ∷ cs) x
part_spells y [] x h = cc
part_spells y (c ∷ cs) x h =
    let month = numbered_part_of Month y (c ∷ cs) in
    let by_m = cond (c == 77) (numbered_part_of Month y cs) month in
    let by_q = cond (c == 81) (numbered_part_of Quarter y cs) by_m in
    let by_s = cond (c == 83) (numbered_part_of Semester y cs) by_q in
    let P = SpellsRest y (45 ∷ (c ∷ cs)) x in
    by_letter c 65 x (numbered_part_of Annual y cs) by_s P (lettered_spells Annual y c cs x)
    (by_letter c 83 x (numbered_part_of Semester y cs) by_q P (lettered_spells Semester y c cs x)
    (by_letter c 81 x (numbered_part_of Quarter y cs) by_m P (lettered_spells Quarter y c cs x)
    (by_letter c 77 x (numbered_part_of Month y cs) month P (lettered_spells Month y c cs x) (month_spells y (c ∷ cs) x)))) h

rest_spells : (y : ℕ) (cs : List ℕ) (x : YearPart) → behind_year y cs ≡ Some x → SpellsRest y cs x
rest_spells y [] x h = subst (λ p. SpellsRest y [] p) (part_is Annual y 1 x h) (refl, inr refl)
rest_spells y (c ∷ cs) x h =
    let dash = if_some (c == 45) (part_of y cs) x h in
    subst (λ k. SpellsRest y (k ∷ cs) x) (sym (eqb-true c 45 dash.0)) (part_spells y cs x dash.1)

pub read_period_spells : (cs : List ℕ) (x : YearPart) → read_period_of cs ≡ Some x → SpellsPeriod cs x
unfolding read_period_of
read_period_spells cs x h =
    let long = if_some (nat_le 4 (length cs)) (option_and_then (λ y. behind_year y (drop 4 cs)) (number_in_digits (take 4 cs))) x h in
    let year = some_of (number_in_digits (take 4 cs)) (λ y. behind_year y (drop 4 cs)) x long.1 in
    let rest = rest_spells year.0 (drop 4 cs) x year.2 in
    let digits : take 4 cs ≡ four_digits x.year =
    four_digits_are (take 4 cs) year.0 (length-take-le 4 cs (leb-true 4 (length cs) long.0)) year.1 ∙ ap four_digits (sym rest.0) in
    let split : cs ≡ four_digits x.year ++ drop 4 cs = sym (take-append-drop 4 cs) ∙ ap (λ l. l ++ drop 4 cs) digits in
    ⊎_elim (λ e. inl (split ∙ ap (λ l. four_digits x.year ++ l) e)) (λ e. inr (split ∙ ap (λ l. four_digits x.year ++ l) e)) rest.1

pub spelled : (cs : List ℕ) (r : Option YearPart) → r ≡ read_period_of cs → IfSome r (SpellsPeriod cs)
spelled cs None is = tt
spelled cs (Some p) is = read_period_spells cs p (sym is)
