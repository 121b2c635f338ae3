-- The indexes and the shifts of periods, as the laws say them.
use Rattle.std.proofs.Common.{IfSome, ◌≡◌, ◌<◌, ℕ, ◌*◌, Bool, true, false, cond, nat_lt, Option, None, Some, refl, sym, ap, subst, ◌∙◌, arith, ℤ, pos, negsuc, ◌+ℤ◌}
use Rattle.std.specs.Ordering.{nat_cmp}
use Rattle.std.proofs.lemmas.Bool.Decides.{nat_tests}
use Rattle.std.proofs.lemmas.Int.{ints}
use Rattle.vtl_time.specs.declared.periods.Frequency.{Frequency}
use Rattle.vtl_time.specs.Periods.{YearPart, is_year_part, parts_in_year, period_cmp, index_of, period_at, period_within, shift_of}
use Rattle.vtl_time.proofs.NumeralLemmas.{chosen_value}
use Rattle.vtl_time.proofs.PeriodLemmas.{IsPart, if_some, index-period_at, period_at_is, period_cmp-index, shift_is}

abbrev part_with : Frequency → ℕ → ℕ → YearPart
part_with f y n = record { frequency = f; year = y; part = n }

-- ---- the order

ordered : (f g : Frequency) (y n z m : ℕ) → f ≡ g → is_year_part f y n ≡ true → is_year_part g z m ≡ true → period_cmp (part_with f y n) (part_with g z m) ≡ nat_cmp (index_of (part_with f y n)) (index_of (part_with g z m))
ordered f g y n z m same h k =
    let P : Frequency → Type 0 = λ x. is_year_part x z m ≡ true → period_cmp (part_with f y n) (part_with x z m) ≡ nat_cmp (index_of (part_with f y n)) (index_of (part_with x z m)) in
    subst P same (λ k. period_cmp-index f y n z m h k) k

pub ordered_by_index : (p q : YearPart) → IsPart p → IsPart q → p.frequency ≡ q.frequency → period_cmp p q ≡ nat_cmp (index_of p) (index_of q)
ordered_by_index p q h k same = ordered p.frequency q.frequency p.year p.part q.year q.part same h k

-- ---- the frequency

within_frequency : (f : Frequency) (z : ℤ) → IfSome (period_within f z) (λ q. q.frequency ≡ f)
within_frequency f (negsuc i) = tt
within_frequency f (pos i) = go (nat_lt i (10000 * parts_in_year f))
  where
    go : (b : Bool) → IfSome (cond b (Some (period_at f i)) None) (λ q. q.frequency ≡ f)
    go true = refl
    go false = tt

pub shift_frequency : (p : YearPart) (n : ℤ) → IfSome (shift_of p n) (λ q. q.frequency ≡ p.frequency)
unfolding shift_of
shift_frequency p n = go (is_year_part p.frequency p.year p.part)
  where
    go : (b : Bool) → IfSome (cond b (period_within p.frequency (pos (index_of p) +ℤ n)) None) (λ q. q.frequency ≡ p.frequency)
    go true = within_frequency p.frequency (pos (index_of p) +ℤ n)
    go false = tt

-- ---- the years

-- what is shifted is a part of one of the years
pub shift_whole : (p q : YearPart) (n : ℤ) → shift_of p n ≡ Some q → IsPart p
unfolding shift_of
shift_whole p q n h = (if_some (is_year_part p.frequency p.year p.part) (period_within p.frequency (pos (index_of p) +ℤ n)) q h).0

below_from : (a b : ℕ) → nat_lt a b ≡ true → a < b
below_from a b h = grind (arith, nat_tests)

-- ---- two shifts

-- the sum of two steps from an index
step_sum : (i j : ℕ) (n m : ℤ) → pos i +ℤ n ≡ pos j → pos j +ℤ m ≡ pos i +ℤ (n +ℤ m)
step_sum i j n m e = omega (arith, ints, e)

pub shift_sum : (p q : YearPart) (n m : ℤ) → shift_of p n ≡ Some q → shift_of q m ≡ shift_of p (n +ℤ m)
shift_sum p q n m h = go (pos (index_of p) +ℤ n) refl (sym (shift_is p n whole) ∙ h)
  where
    f : Frequency
    f = p.frequency

    whole : IsPart p
    whole = shift_whole p q n h

    go : (z : ℤ) → pos (index_of p) +ℤ n ≡ z → period_within f z ≡ Some q → shift_of q m ≡ shift_of p (n +ℤ m)
    go (negsuc i) e h = cc
    go (pos i) e h =
        let below : i < 10000 * parts_in_year f = below_from i (10000 * parts_in_year f) (if_some (nat_lt i (10000 * parts_in_year f)) (Some (period_at f i)) q h).0 in
        ap (λ x. shift_of x m) (sym (chosen_value (nat_lt i (10000 * parts_in_year f)) (period_at f i) q h))
        ∙ shift_is (period_at f i) m (period_at_is f i below)
        ∙ ap (λ j. period_within f (pos j +ℤ m)) (index-period_at f i)
        ∙ ap (period_within f) (step_sum (index_of p) i n m e)
        ∙ sym (shift_is p (n +ℤ m) whole)
