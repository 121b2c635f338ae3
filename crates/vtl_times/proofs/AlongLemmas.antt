-- What is made along a series in order is what is meant at its points.
use Rattle.std.proofs.Common.{◌≡◌, ℕ, zero, suc, ◌+◌, ◌-◌, ◌<◌, ◌==◌, ◌||◌, ◌⊎◌, inl, inr, Bool, true, false, nat_le, None, Some, List, [], ◌∷◌, ◌++◌, Ok, length, map, take, get_or, set, refl, sym, ap, ◌∙◌, subst, arith, pos, if◌then◌else◌}
use Rattle.std.specs.List.{list_any}
use Rattle.std.specs.Option.{option_map_or}
use Rattle.std.proofs.lemmas.Bool.{cases_order, eqb-true}
use Rattle.std.proofs.lemmas.Bool.Decides.{nat_tests}
use Rattle.std.proofs.lemmas.List.{get_or-map, get_or-set_other, get_or-set_same, length-map, length-set}
use Rattle.std.proofs.lemmas.List.FromFn.{fill_by_all}
use Rattle.vtl_lists.proofs.Perms.{Perm-map}
use Rattle.vtl_cell.specs.Frames.{lag_of}
use Rattle.vtl_cell.specs.Groups.{group_value}
use Rattle.vtl_cell.specs.Outcome.{Outcome}
use Rattle.vtl_cell.specs.Row.{Row, column_of}
use Rattle.vtl_cell.specs.declared.cell.Cell.{Cell}
use Rattle.vtl_cell.specs.declared.cell.Cell.TheVariants as c
use Rattle.vtl_cell.specs.declared.operator.AggKind.TheVariants as agg
use Rattle.vtl_cell.proofs.Aggregates.{group-Perm}
use Rattle.vtl_decimal.specs.Settings.{Settings}
use Rattle.vtl_frames.specs.Framed.{at_each}
use Rattle.vtl_frames.specs.Lanes.{lane_cells}
use Rattle.vtl_frames.proofs.ListLemmas.{listed, map_same}
use Rattle.vtl_rows.specs.Places.{row_at}
use Rattle.vtl_tree.specs.Environment.{DataSet}
use Rattle.vtl_timing.specs.Times.{up_to}
use Rattle.vtl_times.specs.Along.{value_along, value_at}
use Rattle.vtl_times.specs.declared.along.Along.{Along}
use Rattle.vtl_times.specs.declared.along.Along.TheVariants as along
use Rattle.vtl_times.specs.InOrder.{IsSeries, has_number, point_at, point_before}
use Rattle.vtl_times.specs.Put.{put_each}

take_mapped : {X Y : Type 0} (f : X → Y) (n : ℕ) (xs : List X) → take n (map f xs) ≡ map f (take n xs)
take_mapped f zero xs = refl
take_mapped f (suc n) [] = refl
take_mapped f (suc n) (x ∷ xs) = ap (λ l. f x ∷ l) (take_mapped f n xs)

cells_twice : (column : ℕ) (points : List Row) (ks : List ℕ) → map (λ k. column_of column (row_at points k)) ks ≡ map (column_of column) (map (row_at points) ks)
cells_twice column points [] = refl
cells_twice column points (k ∷ ks) = ap (λ l. column_of column (row_at points k) ∷ l) (cells_twice column points ks)

module _ (p : Settings) (d : DataSet) (run : List ℕ) (column : ℕ) (is : IsSeries d run) where
  abbrev cells : List Cell
  cells = lane_cells d.points run column

  total_is : (i : ℕ) → i < length run → value_along p along.Totals i cells ≡ value_at p along.Totals column d (point_at d run i)
  total_is i h =
      ap (group_value p agg.Sum) (take_mapped (λ k. column_of column (row_at d.points k)) (i + 1) run ∙ cells_twice column d.points (take (i + 1) run))
      ∙ sym (group-Perm p agg.Sum (map (column_of column) (up_to d (point_at d run i))) (map (column_of column) (map (row_at d.points) (take (i + 1) run))) (Perm-map (column_of column) (is.up_to i h)))

  before_is : (i : ℕ) → i < length run → lag_of 1 (c.Int (pos 0)) i cells ≡ option_map_or (column_of column) (point_before d run i) (c.Int (pos 0))
  before_is zero h = refl
  before_is (suc i) h =
      let below : nat_le 1 (suc i) ≡ true = grind (arith, nat_tests) in
      ap (λ b. if b then get_or cells (suc i - 1) (c.Int (pos 0)) else c.Int (pos 0)) below
      ∙ get_or-map (λ k. column_of column (row_at d.points k)) run (suc i - 1) 0 (c.Int (pos 0)) (omega (arith, h))
      ∙ ap (λ b. option_map_or (column_of column) (if b then Some (point_at d run (suc i - 1)) else None) (c.Int (pos 0))) (sym below)

  previous_is : (i : ℕ) → i < length run → value_along p along.Previous i cells ≡ value_at p along.Previous column d (point_at d run i)
  previous_is i h = ap Ok (before_is i h ∙ ap (λ o. option_map_or (column_of column) o (c.Int (pos 0))) (sym (is.previous i h)))

  along_is : (w : Along) (i : ℕ) → i < length run → value_along p w i cells ≡ value_at p w column d (point_at d run i)
  along_is along.Totals i h = total_is i h
  along_is along.Previous i h = previous_is i h

  -- at all places of the series
  pub along_run : (w : Along) → at_each (λ i. value_along p w i cells) cells ≡ map (λ k. value_at p w column d (row_at d.points k)) run
  along_run w =
      map_same (λ i. value_along p w i cells) (λ i. value_at p w column d (row_at d.points (get_or run i 0))) (length cells) (length run) (length-map run (λ k. column_of column (row_at d.points k))) (along_is w)
      ∙ listed (λ k. value_at p w column d (row_at d.points k)) run 0

-- ---- values put at their points
module _ (f : ℕ → Outcome Cell) where
  abbrev none : Outcome Cell
  none = Ok c.Null

  pub length-put : (ks : List ℕ) (values : List (Outcome Cell)) → length (put_each f ks values) ≡ length values
  length-put [] values = refl
  length-put (k ∷ ks) values = length-put ks (set values k (f k)) ∙ length-set values k (f k)

  one_put : (values : List (Outcome Cell)) (j k : ℕ) → j < length values → get_or values j none ≡ f j → (j ≡ k) ⊎ ((j < k) ⊎ (k < j)) → get_or (set values k (f k)) j none ≡ f j
  one_put values j k h old (inl same) = ap (λ i. get_or (set values i (f i)) j none) (sym same) ∙ get_or-set_same values j (f j) none h
  one_put values j k h old (inr (inl less)) = get_or-set_other values k j (f k) none (λ s. absurd (omega (arith, less, s))) ∙ old
  one_put values j k h old (inr (inr more)) = get_or-set_other values k j (f k) none (λ s. absurd (omega (arith, more, s))) ∙ old

  -- a value that stands at its place stays
  pub stays : (ks : List ℕ) (values : List (Outcome Cell)) (j : ℕ) → j < length values → get_or values j none ≡ f j → get_or (put_each f ks values) j none ≡ f j
  stays [] values j h old = old
  stays (k ∷ ks) values j h old = stays ks (set values k (f k)) j (subst (λ n. j < n) (sym (length-set values k (f k))) h) (one_put values j k h old (cases_order j k))

  -- and each of these places has its own
  pub put_there : (ks : List ℕ) (values : List (Outcome Cell)) (j : ℕ) → j < length values → has_number j ks ≡ true → get_or (put_each f ks values) j none ≡ f j
  put_there [] values j h e = cc
  put_there (k ∷ ks) values j h e = go (k == j) refl e (λ later. put_there ks (set values k (f k)) j wide later)
    where
      wide : j < length (set values k (f k))
      wide = subst (λ n. j < n) (sym (length-set values k (f k))) h

      go : (b : Bool) → (k == j) ≡ b → (b || has_number j ks) ≡ true → (has_number j ks ≡ true → get_or (put_each f ks (set values k (f k))) j none ≡ f j) → get_or (put_each f ks (set values k (f k))) j none ≡ f j
      go true t e later =
          let same : k ≡ j = eqb-true k j t in
          stays ks (set values k (f k)) j wide (ap (λ i. get_or (set values i (f i)) j none) same ∙ get_or-set_same values j (f j) none h)
      go false t e later = later e

-- ---- all points
any_more : {X : Type 0} (p : X → Bool) (xs : List X) (y : X) → list_any p (xs ++ y ∷ []) ≡ true → (list_any p xs ≡ true) ⊎ (p y ≡ true)
any_more p [] y e = inr (last (p y) e)
  where
    last : (b : Bool) → (b || false) ≡ true → b ≡ true
    last true e = refl
    last false e = cc
any_more p (x ∷ xs) y e = go (p x) refl e (λ later. any_more p xs y later)
  where
    go : (b : Bool) → p x ≡ b → (b || list_any p (xs ++ y ∷ [])) ≡ true → (list_any p (xs ++ y ∷ []) ≡ true → (list_any p xs ≡ true) ⊎ (p y ≡ true)) → (list_any p (x ∷ xs) ≡ true) ⊎ (p y ≡ true)
    go true t e later = inl (ap (λ b. b || list_any p xs) t)
    go false t e later = more (later e)
      where
        more : (list_any p xs ≡ true) ⊎ (p y ≡ true) → (list_any p (x ∷ xs) ≡ true) ⊎ (p y ≡ true)
        more (inl a) = inl (ap (λ b. b || list_any p xs) t ∙ a)
        more (inr a) = inr a

-- what stands at the points of some series
abbrev pub StandsAt : (ℕ → Outcome Cell) → List (List ℕ) → List (Outcome Cell) → Type 0
StandsAt f ss values = (j : ℕ) → j < length values → list_any (has_number j) ss ≡ true → get_or values j (Ok c.Null) ≡ f j

pub one_series : (f : ℕ → Outcome Cell) (ss : List (List ℕ)) (run : List ℕ) (values later : List (Outcome Cell)) → later ≡ put_each f run values → StandsAt f ss values → StandsAt f (ss ++ run ∷ []) later
one_series f ss run values later is was = subst (StandsAt f (ss ++ run ∷ [])) (sym is) (λ j h e. go j (subst (λ n. j < n) (length-put f run values) h) (any_more (has_number j) ss run e))
  where
    go : (j : ℕ) → j < length values → (list_any (has_number j) ss ≡ true) ⊎ (has_number j run ≡ true) → get_or (put_each f run values) j (Ok c.Null) ≡ f j
    go j h (inl a) = stays f run values j h (was j h a)
    go j h (inr a) = put_there f run values j h a

pub all_points : (v : Row → Outcome Cell) (points : List Row) (ss : List (List ℕ)) (values : List (Outcome Cell)) → length values ≡ length points → ((k : ℕ) → k < length points → list_any (has_number k) ss ≡ true)
    → StandsAt (λ k. v (row_at points k)) ss values → values ≡ map v points
all_points v points ss values many all is =
    fill_by_all (λ k. v (row_at points k)) values (length points) (Ok c.Null) many (λ k h. is k (subst (λ n. k < n) (sym many) h) (all k h)) ∙ listed v points []
