-- Which aggregates are in range.
use Rattle.std.proofs.Common.{◌≡◌, ℕ, zero, suc, ◌+◌, ◌-◌, ◌*◌, ◌/◌, ◌%◌, ◌<◌, ◌≤◌, ◌^◌, pos, ℤ, List, [], ◌∷◌, Bool, true, false, not, cond, length, Ok, Err, refl, sym, ap, true≢false, arith, subst}
use Rattle.std.specs.Prelude.{IfErr, IsOk, nat_lt, unsigned_abs, ◌+ℤ◌, ◌==◌, fold}
use Rattle.std.specs.Int.RustNames.{int_le}
use Rattle.std.specs.List.{AllByRecursion, list_all}
use Rattle.std.proofs.lemmas.Int.{ints}
use Rattle.vtl_decimal.specs.Range.{fit_number, fit_integer}
use Rattle.vtl_decimal.specs.Rounding.{rounded_quotient}
use Rattle.vtl_decimal.specs.Settings.{Settings}
use Rattle.vtl_decimal.specs.Tally.{tally_of}
use Rattle.vtl_decimal.proofs.PowerLemmas.{units_fit}
use Rattle.vtl_decimal.proofs.RoundingLemmas.{rounded_quotient_within}
use Rattle.vtl_cell.specs.Groups.{aggregate, at, group_value, is_integer, mean_value, middle_of, number_or_null, numbers_of, units_of, values_of, wholes_of}
use Rattle.vtl_decimal.specs.declared.number.Fault.TheVariants.{Range}
use Rattle.vtl_cell.specs.Outcome.{Outcome}
use Rattle.vtl_cell.specs.ScalarArithmetic.{integer, number}
use Rattle.vtl_lists.specs.Sorting.{sorted_by}
use Rattle.vtl_cell.specs.declared.cell.Cell.{Cell}
use Rattle.vtl_cell.specs.declared.cell.Cell.TheVariants as c
use Rattle.vtl_cell.specs.declared.operator.AggKind.{AggKind}
use Rattle.vtl_cell.specs.declared.operator.AggKind.TheVariants as agg
use Rattle.vtl_lists.proofs.Perms.{AllByRecursion-Perm, Perm-sym}
use Rattle.vtl_lists.proofs.Sorts.{AllByRecursion-filter, Perm-sorted_by}
use Rattle.vtl_cell.specs.Kinds.{is_null}
use Rattle.vtl_cell.proofs.Aggregates.{int_order}
use Rattle.vtl_agg.specs.Added.{IsProper, may_be_out_of_range}
use Rattle.vtl_agg.proofs.KnownLemmas.{mean_of_some, some_count}

-- ---- the one fault
number_fault : (k : ℤ) → IfErr (number (fit_number k)) (λ e. e ≡ Range)
number_fault k = go (nat_lt (unsigned_abs k) (10 ^ 18))
  where
    go : (b : Bool) → IfErr (number (cond b (Ok k) (Err Range))) (λ e. e ≡ Range)
    go true = tt
    go false = refl

integer_fault : (s : ℕ) (n : ℤ) → IfErr (integer (fit_integer s n)) (λ e. e ≡ Range)
integer_fault s n = go (nat_lt (unsigned_abs n) (10 ^ (18 - s)))
  where
    go : (b : Bool) → IfErr (integer (cond b (Ok n) (Err Range))) (λ e. e ≡ Range)
    go true = tt
    go false = refl

either_fault : (b : Bool) (u v : Outcome Cell) → IfErr u (λ e. e ≡ Range) → IfErr v (λ e. e ≡ Range) → IfErr (cond b u v) (λ e. e ≡ Range)
either_fault true u v f g = f
either_fault false u v f g = g

-- the total of some numbers by how many they are
abbrev mean_of_list : Settings → ℤ → List ℤ → ℤ
mean_of_list p n ns = rounded_quotient p.rounding (fold ◌+ℤ◌ (pos 0) (n ∷ ns)) (pos (length (n ∷ ns)))

mean_is_number : (p : Settings) (x : Cell) (xs : List Cell) → mean_value p (x ∷ xs) ≡ number (fit_number (mean_of_list p (units_of p.scale x) (numbers_of p.scale xs)))
mean_is_number p x xs =
    let ns = numbers_of p.scale (x ∷ xs) in
    ap number_or_null (mean_of_some p.rounding (length ns) (fold ◌+ℤ◌ (pos 0) ns) (some_count (units_of p.scale x) (numbers_of p.scale xs)))

aggregate_fault : (p : Settings) (kind : AggKind) (xs : List Cell) → IfErr (aggregate p kind xs) (λ e. e ≡ Range)
aggregate_fault p kind [] = tt
aggregate_fault p agg.Sum (x ∷ xs) =
    either_fault (list_all is_integer (x ∷ xs)) (integer (fit_integer p.scale (tally_of (wholes_of (x ∷ xs))).total)) (number (fit_number (tally_of (numbers_of p.scale (x ∷ xs))).total))
    (integer_fault p.scale (tally_of (wholes_of (x ∷ xs))).total)
    (number_fault (tally_of (numbers_of p.scale (x ∷ xs))).total)
aggregate_fault p agg.Avg (x ∷ xs) = subst (λ r. IfErr r (λ e. e ≡ Range)) (sym (mean_is_number p x xs)) (number_fault (mean_of_list p (units_of p.scale x) (numbers_of p.scale xs)))
aggregate_fault p agg.Count (x ∷ xs) = integer_fault p.scale (pos (length (x ∷ xs)))
aggregate_fault p agg.Min (x ∷ xs) = tt
aggregate_fault p agg.Max (x ∷ xs) = tt
aggregate_fault p agg.Median (x ∷ xs) = number_fault (middle_of p (sorted_by int_le (numbers_of p.scale (x ∷ xs))))

pub group_fault : (p : Settings) (kind : AggKind) (xs : List Cell) → IfErr (group_value p kind xs) (λ e. e ≡ Range)
group_fault p kind xs = aggregate_fault p kind (values_of xs)

-- ---- numbers in range
abbrev Largest : ℕ
Largest = 999999999999999999

abbrev AreSmall : List ℤ → Type 0
AreSmall ns = AllByRecursion (λ n. unsigned_abs n ≤ Largest) ns

number_is_ok : (k : ℤ) → unsigned_abs k ≤ Largest → IsOk (number (fit_number k))
number_is_ok k h =
    let small : nat_lt (unsigned_abs k) (10 ^ 18) ≡ true = grind (arith, h) in
    rw small refl

integer_small : (s : ℕ) (n : ℤ) → IsOk (fit_integer s n) → unsigned_abs n < 10 ^ (18 - s)
integer_small s n ok = go (nat_lt (unsigned_abs n) (10 ^ (18 - s))) refl ok
  where
    go : (b : Bool) → nat_lt (unsigned_abs n) (10 ^ (18 - s)) ≡ b → IsOk (let r : Outcome ℤ = cond b (Ok n) (Err Range) in r) → unsigned_abs n < 10 ^ (18 - s)
    go true e h = grind (arith, e)
    go false e h = absurd (true≢false (sym h))

units_small : (p : Settings) (x : Cell) → p.scale ≤ 9 → IsProper p x → unsigned_abs (units_of p.scale x) ≤ Largest
units_small p (c.Int n) s h = omega (arith, units_fit n p.scale s (integer_small p.scale n h.1))
units_small p (c.Num n) s h = omega (arith, h.0)
units_small p other s h = omega arith

numbers_small : (p : Settings) (xs : List Cell) → p.scale ≤ 9 → AllByRecursion (IsProper p) xs → AreSmall (numbers_of p.scale xs)
numbers_small p [] s all = tt
numbers_small p (x ∷ xs) s all = (units_small p x s all.0, numbers_small p xs s all.1)

-- ---- means
sum_abs : (a b : ℤ) → unsigned_abs (a +ℤ b) ≤ unsigned_abs a + unsigned_abs b
sum_abs a b = grind (arith, ints)

total_small : (a : ℤ) (ns : List ℤ) → AreSmall ns → unsigned_abs (fold ◌+ℤ◌ a ns) ≤ unsigned_abs a + length ns * Largest
total_small a [] all = omega arith
total_small a (n ∷ ns) all = omega (arith, total_small (a +ℤ n) ns all.1, sum_abs a n, all.0)

mean_small : (p : Settings) (n : ℤ) (ns : List ℤ) → AreSmall (n ∷ ns) → unsigned_abs (mean_of_list p n ns) ≤ Largest
mean_small p n ns all = rounded_quotient_within p.rounding (fold ◌+ℤ◌ (pos 0) (n ∷ ns)) (length (n ∷ ns)) Largest (omega arith) (omega (arith, total_small (pos 0) (n ∷ ns) all))

-- ---- middles
at_small : (ns : List ℤ) (i : ℕ) → AreSmall ns → unsigned_abs (at ns i) ≤ Largest
at_small [] i all = omega arith
at_small (n ∷ ns) zero all = all.0
at_small (n ∷ ns) (suc i) all = at_small ns i all.1

half_small : (p : Settings) (a b : ℤ) → unsigned_abs a ≤ Largest → unsigned_abs b ≤ Largest → unsigned_abs (rounded_quotient p.rounding (a +ℤ b) (pos 2)) ≤ Largest
half_small p a b h k = rounded_quotient_within p.rounding (a +ℤ b) 2 Largest (omega arith) (omega (arith, sum_abs a b, h, k))

middle_small : (p : Settings) (ns : List ℤ) → AreSmall ns → unsigned_abs (middle_of p ns) ≤ Largest
middle_small p ns all = go (length ns % 2 == 1)
  where
    go : (b : Bool) → unsigned_abs (cond b (at ns (length ns / 2)) (rounded_quotient p.rounding (at ns (length ns / 2 - 1) +ℤ at ns (length ns / 2)) (pos 2))) ≤ Largest
    go true = at_small ns (length ns / 2) all
    go false = half_small p (at ns (length ns / 2 - 1)) (at ns (length ns / 2)) (at_small ns (length ns / 2 - 1) all) (at_small ns (length ns / 2) all)

median_small : (p : Settings) (ns : List ℤ) → AreSmall ns → unsigned_abs (middle_of p (sorted_by int_le ns)) ≤ Largest
median_small p ns all = middle_small p (sorted_by int_le ns) (AllByRecursion-Perm (λ n. unsigned_abs n ≤ Largest) (Perm-sym (Perm-sorted_by int_order ns)) all)

-- ---- aggregates
aggregate_is_ok : (p : Settings) (kind : AggKind) (xs : List Cell) → may_be_out_of_range kind ≡ false → p.scale ≤ 9 → AllByRecursion (IsProper p) xs → IsOk (aggregate p kind xs)
aggregate_is_ok p kind [] e s all = refl
aggregate_is_ok p agg.Avg (x ∷ xs) e s all =
    subst IsOk (sym (mean_is_number p x xs)) (number_is_ok (mean_of_list p (units_of p.scale x) (numbers_of p.scale xs)) (mean_small p (units_of p.scale x) (numbers_of p.scale xs) (numbers_small p (x ∷ xs) s all)))
aggregate_is_ok p agg.Min (x ∷ xs) e s all = refl
aggregate_is_ok p agg.Max (x ∷ xs) e s all = refl
aggregate_is_ok p agg.Median (x ∷ xs) e s all =
    number_is_ok (middle_of p (sorted_by int_le (numbers_of p.scale (x ∷ xs)))) (median_small p (numbers_of p.scale (x ∷ xs)) (numbers_small p (x ∷ xs) s all))
aggregate_is_ok p other (x ∷ xs) e s all = absurd (true≢false e)

pub group_is_ok : (p : Settings) (kind : AggKind) (xs : List Cell) → may_be_out_of_range kind ≡ false → p.scale ≤ 9 → AllByRecursion (IsProper p) xs → IsOk (group_value p kind xs)
group_is_ok p kind xs e s all = aggregate_is_ok p kind (values_of xs) e s (AllByRecursion-filter (IsProper p) (λ x. not (is_null x)) xs all)
