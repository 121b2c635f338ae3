-- Lists in the order of their times, and the frequencies of times.
use Rattle.std.proofs.Common.{◌≡◌, ◌⊎◌, inl, inr, ℕ, zero, suc, ◌+◌, ◌<◌, ◌≤◌, ◌&&◌, Bool, true, false, not, cond, List, [], ◌∷◌, ◌++◌, length, map, take, get_or, Some, refl, sym, ap, ◌∙◌, subst, arith}
use Rattle.std.specs.Prelude.{filter, find, nat_eq}
use Rattle.std.specs.List.{AllByRecursion, list_all}
use Rattle.std.specs.Option.{option_map_or}
use Rattle.std.specs.Ordering.{is_le, is_lt, ordering_reverse}
use Rattle.std.specs.declared.cmp.Ordering.{Ordering}
use Rattle.std.specs.declared.cmp.Ordering.TheVariants.{Less, Equal, Greater}
use Rattle.std.proofs.lemmas.Bool.{cases_order, eqb-true}
use Rattle.std.proofs.lemmas.List.{get_or_append_left, length-append}
use Rattle.std.proofs.lemmas.List.Folds.{list_all_at}
use Rattle.vtl_lists.specs.Apart.{all_apart}
use Rattle.vtl_lists.proofs.Aparts.{apart_parts}
use Rattle.vtl_lists.proofs.Alls.{all_filtered, all_get}
use Rattle.vtl_cell.specs.Order.{cell_cmp, same_cell}
use Rattle.vtl_cell.specs.Row.{Row, column_of}
use Rattle.vtl_cell.specs.ScalarPeriods.{frequency_of}
use Rattle.vtl_cell.specs.declared.cell.Cell.{Cell}
use Rattle.vtl_cell.specs.declared.cell.Cell.TheVariants as c
use Rattle.vtl_cell.proofs.Orders.{cell_cmp-ties, cell_cmp_total}
use Rattle.vtl_cell.proofs.Times.{rank_apart}
use Rattle.vtl_series.specs.Series.{has_frequency, period_in}
use Rattle.vtl_time.specs.Periods.{YearPart, frequency_rank, letter_of}
use Rattle.vtl_time.specs.declared.periods.Frequency.{Frequency}
use Rattle.vtl_time.specs.declared.periods.Frequency.TheVariants.{Annual, Semester, Quarter, Month}
use Rattle.vtl_tree.specs.Columns.{identifiers_of, others_of}
use Rattle.vtl_tree.specs.DataSet.{is_point}
use Rattle.vtl_tree.specs.Structure.{columns_of}
use Rattle.vtl_tree.specs.declared.structure.Component.{Component}
use Rattle.vtl_tree.specs.declared.structure.Structure.{Structure}
use Rattle.vtl_meaning.proofs.GroupPoints.{HasCell}
use Rattle.vtl_meaning.proofs.Places.{all_of_map, columns_split}
use Rattle.vtl_meaning.proofs.ValueKinds.{point_parts}
use Rattle.vtl_timing.specs.Times.{HasTime, is_time, time_of, time_place}
use Rattle.vtl_timing.proofs.SeriesColumns.{time_only}
use Rattle.vtl_timing.proofs.ShiftKept.{time_cell}

-- ---- tests of the items of a list
-- the first items pass a test, and none behind them
pub filter_front : {X : Type 0} (p : X → Bool) (xs : List X) (n : ℕ) (d : X) → n ≤ length xs → ((k : ℕ) → k < n → p (get_or xs k d) ≡ true) → ((k : ℕ) → n ≤ k → k < length xs → p (get_or xs k d) ≡ false) → filter p xs ≡ take n xs
filter_front p [] zero d h pass fail = refl
filter_front p [] (suc n) d h pass fail = absurd (omega (arith, h))
filter_front p (x ∷ xs) zero d h pass fail =
    ap (λ b. cond b (x ∷ filter p xs) (filter p xs)) (fail 0 (omega arith) (omega arith))
    ∙ filter_front p xs 0 d (omega arith) (λ k l. absurd (omega (arith, l))) (λ k l m. fail (suc k) (omega arith) (omega (arith, m)))
filter_front p (x ∷ xs) (suc n) d h pass fail =
    ap (λ b. cond b (x ∷ filter p xs) (filter p xs)) (pass 0 (omega arith))
    ∙ ap (λ l. x ∷ l) (filter_front p xs n d (omega (arith, h)) (λ k l. pass (suc k) (omega (arith, l))) (λ k l m. fail (suc k) (omega (arith, l)) (omega (arith, m))))

-- two tests, one after the other
pub filter_both : {X : Type 0} (p q : X → Bool) (xs : List X) → filter (λ x. p x && q x) xs ≡ filter q (filter p xs)
filter_both p q [] = refl
filter_both {X = X} p q (x ∷ xs) = go (p x) (filter_both p q xs)
  where
    go : (b : Bool) → filter (λ y. p y && q y) xs ≡ filter q (filter p xs) → cond (b && q x) (x ∷ filter (λ y. p y && q y) xs) (filter (λ y. p y && q y) xs) ≡ filter q (cond b (x ∷ filter p xs) (filter p xs))
    go true ih = ap (λ (l : List X). cond (q x) (x ∷ l) l) ih
    go false ih = ih

-- of items that are apart no two are the same
pub apart_at : {X : Type 0} (same : X → X → Bool) (g : ℕ → X) (ks : List ℕ) (i j : ℕ) → i < j → j < length ks → all_apart same (map g ks) ≡ true → same (g (get_or ks i 0)) (g (get_or ks j 0)) ≡ false
apart_at same g [] i j h l e = absurd (omega (arith, l))
apart_at same g (k ∷ ks) i zero h l e = absurd (omega (arith, h))
apart_at same g (k ∷ ks) zero (suc j) h l e = all_get (λ m. same (g k) (g m) ≡ false) ks j 0 (omega (arith, l)) (all_of_map g (λ y. same (g k) y ≡ false) ks (apart_parts same (g k) (map g ks) e).0)
apart_at same g (k ∷ ks) (suc i) (suc j) h l e = apart_at same g ks i j (omega (arith, h)) (omega (arith, l)) (apart_parts same (g k) (map g ks) e).1

-- the first item that passes
find_first : {X : Type 0} (p : X → Bool) (xs : List X) (m : ℕ) (d : X) → m < length xs → ((k : ℕ) → k < m → p (get_or xs k d) ≡ false) → p (get_or xs m d) ≡ true → find p xs ≡ Some (get_or xs m d)
find_first p [] m d h fail pass = absurd (omega (arith, h))
find_first p (x ∷ xs) zero d h fail pass = ap (λ b. cond b (Some x) (find p xs)) pass
find_first p (x ∷ xs) (suc m) d h fail pass = ap (λ b. cond b (Some x) (find p xs)) (fail 0 (omega arith)) ∙ find_first p xs m d (omega (arith, h)) (λ k l. fail (suc k) (omega (arith, l))) pass

all_pass : {X : Type 0} (p : X → Bool) (xs : List X) (d : X) → ((k : ℕ) → k < length xs → p (get_or xs k d) ≡ true) → list_all p xs ≡ true
all_pass p [] d f = refl
all_pass p (x ∷ xs) d f = ap (λ b. b && list_all p xs) (f 0 (omega arith)) ∙ all_pass p xs d (λ k h. f (suc k) (omega (arith, h)))

-- the one that none is later than, where each is earlier than those behind it
pub last_found : {X : Type 0} (at_most : X → X → Bool) (xs : List X) (m : ℕ) (d : X) → length xs ≡ m + 1 → ((k : ℕ) → k ≤ m → at_most (get_or xs k d) (get_or xs m d) ≡ true) → ((k : ℕ) → k < m → at_most (get_or xs m d) (get_or xs k d) ≡ false)
    → find (λ q. list_all (λ z. at_most z q) xs) xs ≡ Some (get_or xs m d)
last_found at_most xs m d n pass fail =
    find_first (λ q. list_all (λ z. at_most z q) xs) xs m d (omega (arith, n))
    (λ k l. list_all_at (λ z. at_most z (get_or xs k d)) xs m d (omega (arith, n)) (fail k l))
    (all_pass (λ z. at_most z (get_or xs m d)) xs d (λ k l. pass k (omega (arith, l, n))))

-- ---- cells that rise
own_tie : (o : Ordering) → o ≡ ordering_reverse o → o ≡ Equal
own_tie Less e = cc
own_tie Equal e = refl
own_tie Greater e = cc

pub less : (u v : Cell) → not (is_lt (cell_cmp v u)) ≡ true → (u ≡ v → ⊥) → cell_cmp u v ≡ Less
less u v h none = go (cell_cmp v u) refl h
  where
    go : (o : Ordering) → cell_cmp v u ≡ o → not (is_lt o) ≡ true → cell_cmp u v ≡ Less
    go Less e i = cc
    go Equal e i = absurd (none (sym (cell_cmp-ties v u e)))
    go Greater e i = cell_cmp_total.antisymm u v ∙ ap ordering_reverse e

module _ (at : ℕ → Cell) (n : ℕ) (rise : (j k : ℕ) → j < k → k < n → cell_cmp (at j) (at k) ≡ Less) where
  own : (v : Cell) → cell_cmp v v ≡ Equal
  own v = own_tie (cell_cmp v v) (cell_cmp_total.antisymm v v)

  back : (j k : ℕ) → j < k → k < n → cell_cmp (at k) (at j) ≡ Greater
  back j k h l = cell_cmp_total.antisymm (at k) (at j) ∙ ap ordering_reverse (rise j k h l)

  pub up_to_is : (i k : ℕ) → k ≤ i → i < n → is_le (cell_cmp (at k) (at i)) ≡ true
  up_to_is i k h l = go (cases_order k i)
    where
      go : (k ≡ i) ⊎ ((k < i) ⊎ (i < k)) → is_le (cell_cmp (at k) (at i)) ≡ true
      go (inl same) = ap (λ j. is_le (cell_cmp (at j) (at i))) same ∙ ap is_le (own (at i))
      go (inr (inl below)) = ap is_le (rise k i below l)
      go (inr (inr above)) = absurd (omega (arith, h, above))

  pub behind_is : (i k : ℕ) → i < k → k < n → is_le (cell_cmp (at k) (at i)) ≡ false
  behind_is i k h l = ap is_le (back i k h l)

  pub before_is : (i k : ℕ) → k < i → i < n → is_lt (cell_cmp (at k) (at i)) ≡ true
  before_is i k h l = ap is_lt (rise k i h l)

  pub from_is : (i k : ℕ) → i ≤ k → k < n → is_lt (cell_cmp (at k) (at i)) ≡ false
  from_is i k h l = go (cases_order i k)
    where
      go : (i ≡ k) ⊎ ((i < k) ⊎ (k < i)) → is_lt (cell_cmp (at k) (at i)) ≡ false
      go (inl same) = ap (λ j. is_lt (cell_cmp (at k) (at j))) same ∙ ap is_lt (own (at k))
      go (inr (inl above)) = ap is_lt (back i k above l)
      go (inr (inr below)) = absurd (omega (arith, h, below))

-- ---- frequencies
-- whether the period of a cell has a frequency
abbrev pub is_in : Frequency → Cell → Bool
is_in f v = option_map_or (has_frequency f) (period_in v) false

letters : (f g : Frequency) → same_cell (c.Text (letter_of g ∷ [])) (c.Text (letter_of f ∷ [])) ≡ nat_eq (frequency_rank g) (frequency_rank f)
letters Annual Annual = refl
letters Annual Semester = refl
letters Annual Quarter = refl
letters Annual Month = refl
letters Semester Annual = refl
letters Semester Semester = refl
letters Semester Quarter = refl
letters Semester Month = refl
letters Quarter Annual = refl
letters Quarter Semester = refl
letters Quarter Quarter = refl
letters Quarter Month = refl
letters Month Annual = refl
letters Month Semester = refl
letters Month Quarter = refl
letters Month Month = refl

letter_is : (f : Frequency) (u : Cell) → same_cell (frequency_of u) (c.Text (letter_of f ∷ [])) ≡ is_in f u
letter_is f c.Null = refl
letter_is f (c.Bool x) = refl
letter_is f (c.Int x) = refl
letter_is f (c.Num x) = refl
letter_is f (c.Text x) = refl
letter_is f (c.Day x) = refl
letter_is f (c.Period q) = letters f q.frequency

pub same_in : (f : Frequency) (u v : Cell) → is_in f v ≡ true → same_cell (frequency_of u) (frequency_of v) ≡ is_in f u
same_in f u c.Null e = cc
same_in f u (c.Bool x) e = cc
same_in f u (c.Int x) e = cc
same_in f u (c.Num x) e = cc
same_in f u (c.Text x) e = cc
same_in f u (c.Day x) e = cc
same_in f u (c.Period q) e =
    let one : q.frequency ≡ f = rank_apart q.frequency f (eqb-true (frequency_rank q.frequency) (frequency_rank f) e) in
    ap (λ g. same_cell (frequency_of u) (c.Text (letter_of g ∷ []))) one ∙ letter_is f u

-- ---- the time of a point is a period
point_cell : (xs : List Component) (r : Row) (i : ℕ) (x : Component) → is_point xs r ≡ true → i < length xs → HasCell (get_or xs i x) (column_of i r)
point_cell [] r i x h l = absurd (omega (arith, l))
point_cell (y ∷ xs) [] i x h l = cc
point_cell (y ∷ xs) (v ∷ r) zero x h l = let parts = point_parts y xs v r h in (parts.0, parts.1)
point_cell (y ∷ xs) (v ∷ r) (suc i) x h l = point_cell xs r i x (point_parts y xs v r h).2 (omega (arith, l))

pub time_is : (a : Structure) → HasTime a → (r : Row) → is_point (columns_of a) r ≡ true → (q : YearPart) × (time_of a r ≡ c.Period q)
time_is a timed r h =
    let one = time_only a timed in
    let xs = columns_of a in
    let ids = identifiers_of a in
    let place = time_place a in
    let wide : length xs ≡ length (ids ++ others_of a) = ap length (columns_split a) in
    let many = length-append ids (others_of a) in
    let there : get_or xs place one.item ≡ one.item = ap (λ (l : List Component). get_or l place one.item) (columns_split a) ∙ get_or_append_left ids (others_of a) one.item place one.within ∙ one.at in
    let passes = subst (AllByRecursion (λ x. is_time x ≡ true)) one.only (all_filtered is_time ids) in
    time_cell one.item (time_of a r) (subst (λ y. HasCell y (time_of a r)) there (point_cell xs r place one.item h (omega (arith, one.within, wide, many)))) passes.0
