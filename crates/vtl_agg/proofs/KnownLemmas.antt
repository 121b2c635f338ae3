-- What is known after one value more, and the value of an aggregate by what is known.
use Rattle.std.proofs.Common.{◌≡◌, ℕ, ◌-◌, ◌<◌, ◌≤◌, ◌^◌, pos, ℤ, List, [], ◌∷◌, ◌++◌, length, Bool, true, false, not, cond, refl, sym, ap, ◌∙◌, Ok, Some, arith, subst, true≢false}
use Rattle.std.specs.Prelude.{◌==◌, ◌+ℤ◌, fold}
use Rattle.std.specs.List.{list_all}
use Rattle.std.specs.Ordering.{is_lt}
use Rattle.std.proofs.Math.Nat.{one-le-pow}
use Rattle.std.proofs.lemmas.Grind.{common_steps}
use Rattle.std.proofs.lemmas.List.{length-map, map-append}
use Rattle.std.proofs.lemmas.List.Elements.{filter-append}
use Rattle.vtl_decimal.specs.Range.{fit_number, fit_integer}
use Rattle.vtl_decimal.specs.Rounding.{rounded_quotient}
use Rattle.vtl_decimal.specs.Settings.{Settings}
use Rattle.vtl_decimal.specs.Tally.{mean_of}
use Rattle.vtl_decimal.specs.declared.settings.Rounding.{Rounding}
use Rattle.vtl_cell.specs.Groups.{values_of, is_integer, numbers_of, number_or_null, total_of, mean_value, least, greatest, aggregate, group_value, units_of, whole_of}
use Rattle.vtl_cell.specs.Kinds.{is_null}
use Rattle.vtl_cell.specs.Order.{cell_cmp}
use Rattle.vtl_cell.specs.Outcome.{Outcome}
use Rattle.vtl_cell.specs.ScalarArithmetic.{integer, number}
use Rattle.vtl_cell.specs.declared.cell.Cell.{Cell}
use Rattle.vtl_cell.specs.declared.cell.Cell.TheVariants as c
use Rattle.vtl_cell.specs.declared.operator.AggKind.{AggKind}
use Rattle.vtl_cell.specs.declared.operator.AggKind.TheVariants as agg
use Rattle.vtl_cell.proofs.Aggregates.{rising_order, falling_order}
use Rattle.vtl_agg.specs.Added.{Added, takes_memory, IsAdded, HasRoom, Known, Totals, counted, totalled, first, listed, known_of, known_with, mean_units, median_value, sum_value, total_by, total_value, totals_of}
use Rattle.vtl_agg.specs.States.{IsRoomy, is_small}
use Rattle.vtl_agg.proofs.FirstLemmas.{NoNulls, first_with}
use Rattle.vtl_agg.proofs.TotalLemmas.{total_in_units, totals_at_end}

-- ---- values
fewer : (cells : List Cell) → length (values_of cells) ≤ length cells
fewer [] = omega arith
fewer (x ∷ xs) = go (is_null x) (fewer xs)
  where
    go : (b : Bool) → length (values_of xs) ≤ length xs → length (cond (not b) (x ∷ values_of xs) (values_of xs)) ≤ length (x ∷ xs)
    go true ih = omega (arith, ih)
    go false ih = omega (arith, ih)

no_nulls : (cells : List Cell) → NoNulls (values_of cells)
no_nulls [] = tt
no_nulls (x ∷ xs) = go (is_null x) refl (no_nulls xs)
  where
    go : (b : Bool) → is_null x ≡ b → NoNulls (values_of xs) → NoNulls (cond (not b) (x ∷ values_of xs) (values_of xs))
    go true e ih = ih
    go false e ih = (e, ih)

value_at_end : (cells : List Cell) (x : Cell) → is_null x ≡ false → values_of (cells ++ x ∷ []) ≡ values_of cells ++ x ∷ []
value_at_end cells x e = filter-append (λ y. not (is_null y)) cells (x ∷ []) ∙ ap (λ b. values_of cells ++ cond (not b) (x ∷ []) []) e

null_at_end : (cells : List Cell) → values_of (cells ++ c.Null ∷ []) ≡ values_of cells
null_at_end [] = refl
null_at_end (x ∷ xs) = ap (λ ys. cond (not (is_null x)) (x ∷ ys) ys) (null_at_end xs)

-- ---- room
room_for : (p : Settings) (kind : AggKind) (xs : List Cell) → length xs < 2 ^ 63 → IsRoomy (known_of p kind xs)
room_for p agg.Sum xs h = h
room_for p agg.Avg xs h = h
room_for p agg.Count xs h = h
room_for p agg.Min xs h = tt
room_for p agg.Max xs h = tt
room_for p agg.Median xs h = tt

pub is_roomy : (a : Added) → HasRoom a → IsRoomy a.known
is_roomy a r =
    let few : length (values_of r.0) < 2 ^ 63 = omega (arith, r.2, fewer r.0) in
    subst IsRoomy (sym r.1.knows) (room_for a.settings a.kind (values_of r.0) few)

small_known : (p : Settings) (kind : AggKind) (xs : List Cell) → takes_memory kind ≡ false → is_small (known_of p kind xs) ≡ true
small_known p agg.Sum xs e = refl
small_known p agg.Avg xs e = refl
small_known p agg.Count xs e = refl
small_known p other xs e = absurd (true≢false e)

pub stays_small : (a : Added) → HasRoom a → takes_memory a.kind ≡ false → is_small a.known ≡ true
stays_small a r e = ap is_small r.1.knows ∙ small_known a.settings a.kind (values_of r.0) e

-- ---- one value more
known_at_end : (p : Settings) (kind : AggKind) (xs : List Cell) (x : Cell) → NoNulls xs → known_with p kind (known_of p kind xs) x ≡ known_of p kind (xs ++ x ∷ [])
known_at_end p agg.Sum xs x all = ap totalled (totals_at_end xs x)
known_at_end p agg.Avg xs x all = ap totalled (totals_at_end xs x)
known_at_end p agg.Count xs x all = grind (arith, common_steps)
known_at_end p agg.Min xs x all = ap first (sym (first_with rising_order xs x (is_lt (cell_cmp x (least xs))) refl all))
known_at_end p agg.Max xs x all = ap first (sym (first_with falling_order xs x (is_lt (cell_cmp (greatest xs) x)) refl all))
known_at_end p agg.Median xs x all = ap listed (sym (map-append (units_of p.scale) xs (x ∷ [])))

pub added_value : (a b : Added) (xs : List Cell) (x : Cell) → b.settings ≡ a.settings → b.kind ≡ a.kind → b.known ≡ known_with a.settings a.kind a.known x → is_null x ≡ false → IsAdded a xs → IsAdded b (xs ++ x ∷ [])
added_value a b xs x settings kind known value h = record {
  knows =
      known
      ∙ ap (λ w. known_with a.settings a.kind w x) h.knows
      ∙ known_at_end a.settings a.kind (values_of xs) x (no_nulls xs)
      ∙ ap (known_of a.settings a.kind) (sym (value_at_end xs x value))
      ∙ (λ n. known_of (sym settings n) (sym kind n) (values_of (xs ++ x ∷ [])));
}

pub added_null : (a : Added) (xs : List Cell) (x : Cell) → x ≡ c.Null → IsAdded a xs → IsAdded a (xs ++ x ∷ [])
added_null a xs x null h = record { knows = h.knows ∙ ap (known_of a.settings a.kind) (sym (null_at_end xs) ∙ ap (λ y. values_of (xs ++ y ∷ [])) (sym null)) }

-- ---- the value by what is known
count_of_none : (p : Settings) → integer (fit_integer p.scale (pos 0)) ≡ Ok (c.Int (pos 0))
count_of_none p = grind (arith, one-le-pow (18 - p.scale) 10 (omega arith))

count_value : (p : Settings) (kind : AggKind) (n : ℕ) (xs : List Cell) → counted n ≡ known_of p kind xs → integer (fit_integer p.scale (pos n)) ≡ aggregate p kind xs
count_value p agg.Count n [] e =
    let none : n ≡ 0 = cc in
    rw none (count_of_none p)
count_value p agg.Count n (x ∷ xs) e =
    let same : n ≡ length (x ∷ xs) = cc in
    ap (λ m. integer (fit_integer p.scale (pos m))) same
count_value p other n xs e = cc

first_value : (p : Settings) (kind : AggKind) (y : Cell) (xs : List Cell) → first y ≡ known_of p kind xs → Ok y ≡ aggregate p kind xs
first_value p agg.Min y [] e = cc
first_value p agg.Min y (x ∷ xs) e = cc
first_value p agg.Max y [] e = cc
first_value p agg.Max y (x ∷ xs) e = cc
first_value p other y xs e = cc

sum_is : (p : Settings) (xs : List Cell) → sum_value p (totals_of xs) ≡ total_of p xs
sum_is p xs = ap (λ n. cond (list_all is_integer xs) (integer (fit_integer p.scale (total_by whole_of xs))) (number (fit_number n))) (total_in_units p.scale xs)

pub some_count : (n : ℤ) (ns : List ℤ) → (length (n ∷ ns) == 0) ≡ false
some_count n ns = grind arith

pub mean_of_some : (m : Rounding) (n : ℕ) (total : ℤ) → (n == 0) ≡ false → mean_of m (record { count = n; total = total }) ≡ Some (rounded_quotient m total (pos n))
mean_of_some m n total e = rw e refl

some_cells : (x : Cell) (xs : List Cell) → (length (x ∷ xs) == 0) ≡ false
some_cells x xs = grind arith

of_some : {A : Type 0} (n : ℕ) (a b : A) → (n == 0) ≡ false → cond (n == 0) a b ≡ b
of_some n a b e = rw e refl

mean_is : (p : Settings) (x : Cell) (xs : List Cell) → number (fit_number (mean_units p (totals_of (x ∷ xs)))) ≡ mean_value p (x ∷ xs)
mean_is p x xs =
    let ns = numbers_of p.scale (x ∷ xs) in
    (λ n. number (fit_number (rounded_quotient p.rounding (total_in_units p.scale (x ∷ xs) n) (pos (sym (length-map (x ∷ xs) (units_of p.scale)) n)))))
    ∙ ap number_or_null (sym (mean_of_some p.rounding (length ns) (fold ◌+ℤ◌ (pos 0) ns) (some_count (units_of p.scale x) (numbers_of p.scale xs))))

totals_value : (p : Settings) (kind : AggKind) (t : Totals) (xs : List Cell) → totalled t ≡ known_of p kind xs → total_value p kind t ≡ aggregate p kind xs
totals_value p agg.Sum t [] e =
    let none : t ≡ totals_of [] = cc in
    ap (total_value p agg.Sum) none
totals_value p agg.Sum t (x ∷ xs) e =
    let same : t ≡ totals_of (x ∷ xs) = cc in
    ap (total_value p agg.Sum) same ∙ of_some (length (x ∷ xs)) (Ok c.Null) (sum_value p (totals_of (x ∷ xs))) (some_cells x xs) ∙ sum_is p (x ∷ xs)
totals_value p agg.Avg t [] e =
    let none : t ≡ totals_of [] = cc in
    ap (total_value p agg.Avg) none
totals_value p agg.Avg t (x ∷ xs) e =
    let same : t ≡ totals_of (x ∷ xs) = cc in
    ap (total_value p agg.Avg) same ∙ of_some (length (x ∷ xs)) (Ok c.Null) (number (fit_number (mean_units p (totals_of (x ∷ xs))))) (some_cells x xs) ∙ mean_is p x xs
totals_value p other t xs e = cc

list_value : (p : Settings) (kind : AggKind) (ks : List ℤ) (xs : List Cell) → listed ks ≡ known_of p kind xs → median_value p ks ≡ aggregate p kind xs
list_value p agg.Median ks [] e =
    let none : ks ≡ [] = cc in
    ap (median_value p) none
list_value p agg.Median ks (x ∷ xs) e =
    let same : ks ≡ numbers_of p.scale (x ∷ xs) = cc in
    ap (median_value p) same
list_value p other ks xs e = cc

-- ---- an accumulator, from its parts
abbrev pub seen : Settings → AggKind → Known → Added
seen p kind known = record { settings = p; kind = kind; known = known }

-- what the value is, by what is known
abbrev pub value_by : Settings → AggKind → Known → Outcome Cell
value_by p kind (counted n) = integer (fit_integer p.scale (pos n))
value_by p kind (totalled t) = total_value p kind t
value_by p kind (first y) = Ok y
value_by p kind (listed ks) = median_value p ks

value_is : (p : Settings) (kind : AggKind) (known : Known) (xs : List Cell) → known ≡ known_of p kind xs → value_by p kind known ≡ aggregate p kind xs
value_is p kind (counted n) xs e = count_value p kind n xs e
value_is p kind (totalled t) xs e = totals_value p kind t xs e
value_is p kind (first y) xs e = first_value p kind y xs e
value_is p kind (listed ks) xs e = list_value p kind ks xs e

pub answer : (p : Settings) (kind : AggKind) (known : Known) (a : Added) (xs : List Cell) → seen p kind known ≡ a → IsAdded a xs → value_by p kind known ≡ group_value a.settings a.kind xs
answer p kind known a xs e h =
    let added : IsAdded (seen p kind known) xs = subst (λ b. IsAdded b xs) (sym e) h in
    value_is p kind known (values_of xs) added.knows ∙ ap (λ b. group_value b.settings b.kind xs) e

pub not_null : (x : Cell) → (x ≡ c.Null → ⊥) → is_null x ≡ false
not_null c.Null h = absurd (h refl)
not_null other h = refl
