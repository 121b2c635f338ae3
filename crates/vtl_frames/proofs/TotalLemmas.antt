-- The totals of values, as cells come and go, and the values of aggregates by them.
use Rattle.std.proofs.Common.{◌≡◌, ℕ, ◌+◌, ◌*◌, ◌^◌, ◌<◌, ◌≤◌, pos, ℤ, List, [], ◌∷◌, ◌++◌, length, map, Bool, true, false, not, ◌&&◌, cond, refl, sym, ap, ◌∙◌, arith, subst, append-nil, true≢false}
use Rattle.std.specs.Prelude.{◌==◌, ◌+ℤ◌, ◌-ℤ◌, unsigned_abs, count_by, fold}
use Rattle.std.specs.List.{AllByRecursion, list_all}
use Rattle.std.proofs.Math.IntN.{+ℤ_assoc, +ℤ_comm}
use Rattle.std.proofs.lemmas.Int.{ints}
use Rattle.std.proofs.lemmas.List.{length_push}
use Rattle.std.proofs.lemmas.List.Elements.{filter-append}
use Rattle.std.proofs.lemmas.List.Sums.{count_by-le-length, sum_by_push, sum_by-cons}
use Rattle.vtl_decimal.specs.Range.{fit_number}
use Rattle.vtl_decimal.specs.Settings.{Settings}
use Rattle.vtl_agg.specs.Added.{counted, rest_of, total_by, totalled, units_in}
use Rattle.vtl_agg.specs.Added as agg
use Rattle.vtl_agg.proofs.KnownLemmas.{answer, seen}
use Rattle.vtl_agg.proofs.TotalLemmas.{total_in_units, totals_at_end}
use Rattle.vtl_cell.specs.Groups.{group_value, is_integer, values_of, whole_of}
use Rattle.vtl_cell.specs.Kinds.{is_null}
use Rattle.vtl_cell.specs.declared.cell.Cell.{Cell}
use Rattle.vtl_cell.specs.declared.cell.Cell.TheVariants as c
use Rattle.vtl_cell.specs.declared.operator.AggKind.{AggKind}
use Rattle.vtl_cell.specs.declared.operator.AggKind.TheVariants as kinds
use Rattle.vtl_frames.specs.Kept.{HasTotals, is_best, is_moved}
use Rattle.vtl_frames.specs.Ratios.{total_number}
use Rattle.vtl_frames.specs.Totals.{HasCounted, IsRoomy, IsSmall, joined, left, sums_in, totals_of, value_of}
use Rattle.vtl_frames.specs.declared.totals.Totals.{Totals}

-- ---- one cell more
no_more : (z : ℤ) → z ≡ z +ℤ pos 0
no_more z = grind (arith, ints)

none_more : (n : ℕ) → n ≡ n + 0
none_more n = omega arith

totals_push : (vs : List Cell) (x : Cell) (t : Totals) → t.count ≡ length vs + 1 → t.integers ≡ count_by is_integer vs + cond (is_integer x) 1 0 → t.whole ≡ total_by whole_of vs +ℤ whole_of x → t.rest ≡ total_by rest_of vs +ℤ rest_of x → t ≡ totals_of (vs ++ x ∷ [])
totals_push vs x t count integers whole rest = λ i. record {
  count = (count ∙ sym (length_push vs x)) i;
  integers = (integers ∙ sym (sum_by_push (λ y. cond (is_integer y) 1 0) vs x)) i;
  whole = (whole ∙ ap (λ s. s.whole) (totals_at_end vs x)) i;
  rest = (rest ∙ ap (λ s. s.rest) (totals_at_end vs x)) i;
}

joined_value : (vs : List Cell) (x : Cell) → joined (totals_of vs) x ≡ totals_of (vs ++ values_of (x ∷ []))
joined_value vs c.Null = ap totals_of (sym (append-nil vs))
joined_value vs (c.Int n) = totals_push vs (c.Int n) (joined (totals_of vs) (c.Int n)) refl refl refl (no_more (total_by rest_of vs))
joined_value vs (c.Num k) = totals_push vs (c.Num k) (joined (totals_of vs) (c.Num k)) refl (none_more (count_by is_integer vs)) (no_more (total_by whole_of vs)) refl
joined_value vs other = totals_push vs other (joined (totals_of vs) other) refl (none_more (count_by is_integer vs)) (no_more (total_by whole_of vs)) (no_more (total_by rest_of vs))

pub joined_is : (cells : List Cell) (x : Cell) → joined (totals_of (values_of cells)) x ≡ totals_of (values_of (cells ++ x ∷ []))
joined_is cells x = joined_value (values_of cells) x ∙ ap totals_of (sym (filter-append (λ y. not (is_null y)) cells (x ∷ [])))

-- ---- one cell less
from_zero : (a : ℤ) → a ≡ pos 0 +ℤ a
from_zero a = grind (arith, ints)

shuffled : (t a n : ℤ) → t +ℤ (a +ℤ n) ≡ (t +ℤ (pos 0 +ℤ n)) +ℤ a
shuffled t a n = ap (λ z. t +ℤ z) (+ℤ_comm a n) ∙ sym (+ℤ_assoc t n a) ∙ ap (λ z. (t +ℤ z) +ℤ a) (from_zero n)

fold_from : (a : ℤ) (ns : List ℤ) → fold ◌+ℤ◌ a ns ≡ fold ◌+ℤ◌ (pos 0) ns +ℤ a
fold_from a [] = from_zero a
fold_from a (n ∷ ns) = fold_from (a +ℤ n) ns ∙ shuffled (fold ◌+ℤ◌ (pos 0) ns) a n ∙ ap (λ z. z +ℤ a) (sym (fold_from (pos 0 +ℤ n) ns))

total_front : (f : Cell → ℤ) (x : Cell) (xs : List Cell) → total_by f (x ∷ xs) ≡ total_by f xs +ℤ f x
total_front f x xs = fold_from (pos 0 +ℤ f x) (map f xs) ∙ ap (λ z. total_by f xs +ℤ z) (sym (from_zero (f x)))

taken_back : (z t n : ℤ) → z ≡ t +ℤ n → z -ℤ n ≡ t
taken_back z t n e = grind (arith, ints)

not_taken : (z t : ℤ) → z ≡ t +ℤ pos 0 → z ≡ t
not_taken z t e = e ∙ sym (no_more t)

integers_front : (x : Cell) (xs : List Cell) → count_by is_integer (x ∷ xs) ≡ cond (is_integer x) 1 0 + count_by is_integer xs
integers_front x xs = sum_by-cons (λ y. cond (is_integer y) 1 0) x xs

totals_same : (vs : List Cell) (t : Totals) → t.count ≡ length vs → t.integers ≡ count_by is_integer vs → t.whole ≡ total_by whole_of vs → t.rest ≡ total_by rest_of vs → t ≡ totals_of vs
totals_same vs t count integers whole rest = λ i. record { count = count i; integers = integers i; whole = whole i; rest = rest i }

pub left_is : (x : Cell) (cells : List Cell) → left (totals_of (values_of (x ∷ cells))) x ≡ totals_of (values_of cells)
left_is c.Null cells = refl
left_is (c.Int n) cells =
    let vs = values_of cells in
    totals_same vs (left (totals_of (c.Int n ∷ vs)) (c.Int n)) (omega arith) (omega (arith, integers_front (c.Int n) vs))
    (taken_back (total_by whole_of (c.Int n ∷ vs)) (total_by whole_of vs) n (total_front whole_of (c.Int n) vs))
    (not_taken (total_by rest_of (c.Int n ∷ vs)) (total_by rest_of vs) (total_front rest_of (c.Int n) vs))
left_is (c.Num k) cells =
    let vs = values_of cells in
    totals_same vs (left (totals_of (c.Num k ∷ vs)) (c.Num k)) (omega arith) (omega (arith, integers_front (c.Num k) vs))
    (not_taken (total_by whole_of (c.Num k ∷ vs)) (total_by whole_of vs) (total_front whole_of (c.Num k) vs))
    (taken_back (total_by rest_of (c.Num k ∷ vs)) (total_by rest_of vs) k (total_front rest_of (c.Num k) vs))
left_is other cells =
    let vs = values_of cells in
    totals_same vs (left (totals_of (other ∷ vs)) other) (omega arith) (omega (arith, integers_front other vs))
    (not_taken (total_by whole_of (other ∷ vs)) (total_by whole_of vs) (total_front whole_of other vs))
    (not_taken (total_by rest_of (other ∷ vs)) (total_by rest_of vs) (total_front rest_of other vs))

pub has_counted : (x : Cell) (cells : List Cell) → HasCounted (totals_of (values_of (x ∷ cells))) x
has_counted c.Null cells = tt
has_counted (c.Int n) cells = (omega arith, omega (arith, integers_front (c.Int n) (values_of cells)))
has_counted other cells = omega arith

-- ---- room
abbrev Largest : ℕ
Largest = 2 ^ 63

sum_abs : (a b : ℤ) → unsigned_abs (a +ℤ b) ≤ unsigned_abs a + unsigned_abs b
sum_abs a b = grind (arith, ints)

module _ (f : Cell → ℤ) (small : (x : Cell) → IsSmall x → unsigned_abs (f x) ≤ Largest) where
  total_more : (x : Cell) (vs : List Cell) (n : ℕ) (b : Bool) → unsigned_abs (total_by f vs) ≤ n * Largest → IsSmall x → unsigned_abs (total_by f (cond b (x ∷ vs) vs)) ≤ (n + 1) * Largest
  total_more x vs n true h k =
      let more = ap unsigned_abs (total_front f x vs) in
      omega (arith, more, h, sum_abs (total_by f vs) (f x), small x k)
  total_more x vs n false h k = omega (arith, h)

  total_small : (at : ℕ → Cell) (ks : List ℕ) → AllByRecursion (λ k. IsSmall (at k)) ks → unsigned_abs (total_by f (values_of (map at ks))) ≤ length ks * Largest
  total_small at [] all = omega arith
  total_small at (k ∷ ks) all =
      let more = total_more (at k) (values_of (map at ks)) (length ks) (not (is_null (at k))) (total_small at ks all.1) all.0 in
      omega (arith, more)

fewer : (at : ℕ → Cell) (ks : List ℕ) → length (values_of (map at ks)) ≤ length ks
fewer at [] = omega arith
fewer at (k ∷ ks) = go (not (is_null (at k))) (fewer at ks)
  where
    go : (b : Bool) → length (values_of (map at ks)) ≤ length ks → length (cond b (at k ∷ values_of (map at ks)) (values_of (map at ks))) ≤ length (k ∷ ks)
    go true h = omega (arith, h)
    go false h = omega (arith, h)

totals_roomy : (at : ℕ → Cell) (ks : List ℕ) → AllByRecursion (λ k. IsSmall (at k)) ks → length ks < 2 ^ 61 → IsRoomy (totals_of (values_of (map at ks)))
totals_roomy at ks all few = record {
  count = omega (arith, fewer at ks, few);
  integers = count_by-le-length is_integer (values_of (map at ks));
  whole = omega (arith, total_small whole_of (λ x s. s.whole) at ks all, few);
  rest = omega (arith, total_small rest_of (λ x s. s.rest) at ks all, few);
}

pub roomy : (at : ℕ → Cell) (ks : List ℕ) (t : Totals) → HasTotals at ks t → length ks < 2 ^ 61 → IsRoomy t
roomy at ks t h few = subst IsRoomy (sym h.totals) (totals_roomy at ks h.small few)

-- ---- the value
one_more : (n m : ℕ) → (n == m) ≡ (1 + n == m + 1)
one_more n m = grind arith

too_few : (n m : ℕ) → n ≤ m → false ≡ (0 + n == m + 1)
too_few n m h = grind (arith, h)

all_integers : (vs : List Cell) → (count_by is_integer vs == length vs) ≡ list_all is_integer vs
all_integers [] = refl
all_integers (x ∷ vs) = ap (λ n. n == length (x ∷ vs)) (integers_front x vs) ∙ ap (λ n. cond (is_integer x) 1 0 + count_by is_integer vs == n) (omega arith) ∙ go (is_integer x) (all_integers vs)
  where
    go : (b : Bool) → (count_by is_integer vs == length vs) ≡ list_all is_integer vs → (cond b 1 0 + count_by is_integer vs == length vs + 1) ≡ (b && list_all is_integer vs)
    go true ih = sym (one_more (count_by is_integer vs) (length vs)) ∙ ih
    go false ih = sym (too_few (count_by is_integer vs) (length vs) (count_by-le-length is_integer vs))

sums_are : (vs : List Cell) → sums_in (totals_of vs) ≡ agg.totals_of vs
sums_are vs = λ i. record { count = length vs; is_whole = all_integers vs i; whole = total_by whole_of vs; rest = total_by rest_of vs }

pub value_is : (p : Settings) (kind : AggKind) (t : Totals) (cells : List Cell) → is_best kind ≡ false → is_moved kind ≡ true → t ≡ totals_of (values_of cells) → value_of p kind t ≡ group_value p kind cells
value_is p kinds.Sum t cells e h same =
    answer p kinds.Sum (totalled (sums_in t)) (seen p kinds.Sum (totalled (sums_in t))) cells refl (record { knows = ap (λ u. totalled (sums_in u)) same ∙ ap totalled (sums_are (values_of cells)) })
value_is p kinds.Avg t cells e h same =
    answer p kinds.Avg (totalled (sums_in t)) (seen p kinds.Avg (totalled (sums_in t))) cells refl (record { knows = ap (λ u. totalled (sums_in u)) same ∙ ap totalled (sums_are (values_of cells)) })
value_is p kinds.Count t cells e h same =
    answer p kinds.Count (counted t.count) (seen p kinds.Count (counted t.count)) cells refl (record { knows = ap (λ u. counted u.count) same })
value_is p kinds.Median t cells e h same = absurd (true≢false (sym h))
value_is p other t cells e h same = absurd (true≢false e)

pub total_is : (p : Settings) (t : Totals) (cells : List Cell) → t ≡ totals_of (values_of cells) → fit_number (units_in p (sums_in t)) ≡ total_number p cells
total_is p t cells same = ap (λ u. fit_number (units_in p (sums_in u))) same ∙ ap fit_number (total_in_units p.scale (values_of cells))
