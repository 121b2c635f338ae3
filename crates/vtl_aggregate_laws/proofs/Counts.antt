-- The counts of parts add up to the count of all.
use Rattle.std.proofs.Common.{◌≡◌, ℕ, ◌+◌, ◌<◌, pos, Bool, true, false, cond, List, [], ◌∷◌, map, length, Ok, Err, refl, sym, ap, ◌∙◌, arith, ◌⊎◌, inl, inr, ⊎_elim}
use Rattle.std.specs.Prelude.{◌+ℤ◌, ◌-◌, ◌^◌, nat_lt, not}
use Rattle.std.specs.List.{filter, flat_map, list_all, sum_by}
use Rattle.std.proofs.lemmas.List.Concat.{length-flat_map}
use Rattle.std.proofs.lemmas.List.Sums.{sum_by-cons}
use Rattle.std.proofs.Math.Nat.{one-le-pow}
use Rattle.vtl_decimal.specs.Range.{fit_integer}
use Rattle.vtl_decimal.specs.Settings.{Settings}
use Rattle.vtl_cell.specs.Groups.{aggregate, count_of_points, group_value, is_integer, values_of, wholes_of}
use Rattle.vtl_cell.specs.Kinds.{is_null}
use Rattle.vtl_decimal.specs.declared.number.Fault.TheVariants.{Range}
use Rattle.vtl_cell.specs.Outcome.{Outcome, after}
use Rattle.vtl_cell.specs.Outcomes.{all_of}
use Rattle.vtl_cell.specs.Row.{Row, column_of, same_row}
use Rattle.vtl_cell.specs.ScalarArithmetic.{integer}
use Rattle.vtl_cell.specs.declared.cell.Cell.{Cell}
use Rattle.vtl_cell.specs.declared.cell.Cell.TheVariants as c
use Rattle.vtl_cell.specs.declared.operator.AggKind.TheVariants.{Count, Sum}
use Rattle.vtl_cell.proofs.Aggregates.{count-Perm, group-Perm}
use Rattle.vtl_lists.proofs.Perms.{Perm-map}
use Rattle.vtl_rows.specs.Tables.{cells_at}
use Rattle.vtl_tuples.proofs.Lists.{filter-flat_map, map-flat_map, map_each}
use Rattle.vtl_meaning.specs.Groups.{keys_by, points_with}
use Rattle.vtl_aggregate_laws.specs.Parts.{of_column, of_groups, values_at}
use Rattle.vtl_aggregate_laws.proofs.Pieces.{parts}
use Rattle.vtl_aggregate_laws.proofs.Totals.{total, total-cons}

-- a count is a value where it is an integer of the profile
abbrev counted : Settings → ℕ → Outcome Cell
counted p n = integer (fit_integer p.scale (pos n))

abbrev count_cells : (Row → ℕ) → List Row → List Cell
count_cells size ks = map (λ k. c.Int (pos (size k))) ks

module _ (p : Settings) (size : Row → ℕ) where
  -- all counts are values, or they add up to none
  each_counted : (ks : List Row) → (all_of (map (λ k. counted p (size k)) ks) ≡ Ok (count_cells size ks)) ⊎ ((all_of (map (λ k. counted p (size k)) ks) ≡ Err Range) × (counted p (sum_by size ks) ≡ Err Range))
  each_counted [] = inl refl
  each_counted (k ∷ ks) = go (nat_lt (size k) (10 ^ (18 - p.scale))) refl (each_counted ks)
    where
      whole : List (Outcome Cell) → Bool → Outcome (List Cell)
      whole ms b = after (integer (cond b (Ok (pos (size k))) (Err Range))) (λ v. after (all_of ms) (λ vs. Ok (v ∷ vs)))

      more : (m n : ℕ) → nat_lt n (10 ^ (18 - p.scale)) ≡ false → nat_lt (m + n) (10 ^ (18 - p.scale)) ≡ false
      more m n e = grind arith

      front : (m n : ℕ) → nat_lt m (10 ^ (18 - p.scale)) ≡ false → nat_lt (m + n) (10 ^ (18 - p.scale)) ≡ false
      front m n e = grind arith

      faulty : (n : ℕ) → counted p n ≡ Err Range → nat_lt n (10 ^ (18 - p.scale)) ≡ false
      faulty n e = at (nat_lt n (10 ^ (18 - p.scale))) e
        where
          at : (b : Bool) → integer (cond b (Ok (pos n)) (Err Range)) ≡ Err Range → b ≡ false
          at true h = cc
          at false h = refl

      out : (n : ℕ) → nat_lt n (10 ^ (18 - p.scale)) ≡ false → counted p n ≡ Err Range
      out n e = ap (λ b. integer (cond b (Ok (pos n)) (Err Range))) e

      go : (b : Bool) → nat_lt (size k) (10 ^ (18 - p.scale)) ≡ b
          → (all_of (map (λ j. counted p (size j)) ks) ≡ Ok (count_cells size ks)) ⊎ ((all_of (map (λ j. counted p (size j)) ks) ≡ Err Range) × (counted p (sum_by size ks) ≡ Err Range))
          → (all_of (map (λ j. counted p (size j)) (k ∷ ks)) ≡ Ok (count_cells size (k ∷ ks))) ⊎ ((all_of (map (λ j. counted p (size j)) (k ∷ ks)) ≡ Err Range) × (counted p (sum_by size (k ∷ ks)) ≡ Err Range))
      go true e (inl h) = inl (ap (whole (map (λ j. counted p (size j)) ks)) e ∙ ap (λ m. after m (λ vs. Ok (c.Int (pos (size k)) ∷ vs))) h)
      go true e (inr h) = inr (ap (whole (map (λ j. counted p (size j)) ks)) e ∙ ap (λ m. after m (λ vs. Ok (c.Int (pos (size k)) ∷ vs))) h.0, ap (counted p) (sum_by-cons size k ks) ∙ out (size k + sum_by size ks) (more (size k) (sum_by size ks) (faulty (sum_by size ks) h.1)))
      go false e ih = inr (ap (whole (map (λ j. counted p (size j)) ks)) e, ap (counted p) (sum_by-cons size k ks) ∙ out (size k + sum_by size ks) (front (size k) (sum_by size ks) e))

  values_are : (ks : List Row) → values_of (count_cells size ks) ≡ count_cells size ks
  values_are [] = refl
  values_are (k ∷ ks) = ap (λ l. c.Int (pos (size k)) ∷ l) (values_are ks)

  whole_are : (ks : List Row) → list_all is_integer (count_cells size ks) ≡ true
  whole_are [] = refl
  whole_are (k ∷ ks) = whole_are ks

  total_counted : (ks : List Row) → total (wholes_of (count_cells size ks)) ≡ pos (sum_by size ks)
  total_counted [] = refl
  total_counted (k ∷ ks) = total-cons (pos (size k)) (wholes_of (count_cells size ks)) ∙ ap (λ z. pos (size k) +ℤ z) (total_counted ks) ∙ ap pos (sym (sum_by-cons size k ks))

  summed_counts : (k : Row) (ks : List Row) → group_value p Sum (count_cells size (k ∷ ks)) ≡ counted p (sum_by size (k ∷ ks))
  summed_counts k ks = ap (aggregate p Sum) (values_are (k ∷ ks)) ∙ rw (whole_are ks) (ap (λ n. integer (fit_integer p.scale n)) (total_counted (k ∷ ks)))

  counts_sum : (k : Row) (ks : List Row) → after (all_of (map (λ j. counted p (size j)) (k ∷ ks))) (group_value p Sum) ≡ counted p (sum_by size (k ∷ ks))
  counts_sum k ks = ⊎_elim
      (λ h. ap (λ m. after m (group_value p Sum)) h ∙ summed_counts k ks)
      (λ h. ap (λ m. after m (group_value p Sum)) h.0 ∙ sym h.1)
      (each_counted (k ∷ ks))

  -- where the counts are values, their sum is the count of all
  sum_of_values : (k : Row) (ks : List Row) (vs : List Cell) → all_of (map (λ j. counted p (size j)) (k ∷ ks)) ≡ Ok vs → group_value p Sum vs ≡ counted p (sum_by size (k ∷ ks))
  sum_of_values k ks vs e = ap (λ m. after m (group_value p Sum)) (sym e) ∙ counts_sum k ks

module _ (p : Settings) where
  no_value : Ok (c.Int (pos 0)) ≡ counted p 0
  no_value =
      let some : 0 < 10 ^ (18 - p.scale) = one-le-pow (18 - p.scale) 10 (omega arith) in
      let below : nat_lt 0 (10 ^ (18 - p.scale)) ≡ true = grind (arith, some) in
      ap (λ b. integer (cond b (Ok (pos 0)) (Err Range))) (sym below)

  count_is : (xs : List Cell) → group_value p Count xs ≡ counted p (length (values_of xs))
  count_is xs = go (values_of xs)
    where
      go : (vs : List Cell) → aggregate p Count vs ≡ counted p (length vs)
      go [] = no_value
      go (v ∷ vs) = refl

  -- how many values a column has
  abbrev size_at : ℕ → List Row → ℕ
  size_at i points = length (values_of (values_at i points))

  sizes : (i : ℕ) (points : Row → List Row) (ks : List Row) → sum_by (λ k. size_at i (points k)) ks ≡ size_at i (flat_map points ks)
  sizes i points ks =
      sym (length-flat_map (λ k. values_of (values_at i (points k))) ks)
      ∙ ap length (sym (ap values_of (map-flat_map (column_of i) points ks) ∙ filter-flat_map (λ x. not (is_null x)) (λ k. values_at i (points k)) ks))

  columns_counted : (i : ℕ) (points : Row → List Row) (ks : List Row) → map (λ k. of_column p Count i (points k)) ks ≡ map (λ k. counted p (size_at i (points k))) ks
  columns_counted i points ks = map_each (λ k. of_column p Count i (points k)) (λ k. counted p (size_at i (points k))) (λ k. count_is (values_at i (points k))) ks

  -- ---- of any parts, one at least
  pub count_of_parts : (points : Row → List Row) (k : Row) (ks : List Row) (vs : List Cell) → all_of (map (λ j. count_of_points p (points j)) (k ∷ ks)) ≡ Ok vs → group_value p Sum vs ≡ count_of_points p (flat_map points (k ∷ ks))
  count_of_parts points k ks vs e = sum_of_values p (λ j. length (points j)) k ks vs e ∙ ap (counted p) (sym (length-flat_map points (k ∷ ks)))

  pub values_of_parts : (i : ℕ) (points : Row → List Row) (k : Row) (ks : List Row) (vs : List Cell) → all_of (map (λ j. of_column p Count i (points j)) (k ∷ ks)) ≡ Ok vs → group_value p Sum vs ≡ of_column p Count i (flat_map points (k ∷ ks))
  values_of_parts i points k ks vs e =
      sum_of_values p (λ j. size_at i (points j)) k ks vs (ap all_of (sym (columns_counted i points (k ∷ ks))) ∙ e) ∙ ap (counted p) (sizes i points (k ∷ ks)) ∙ sym (count_is (values_at i (flat_map points (k ∷ ks))))

  -- ---- of groups
  pub points_add_up : (places : List ℕ) (d : List Row) → 0 < length d → after (of_groups (count_of_points p) places d) (group_value p Sum) ≡ count_of_points p d
  points_add_up places [] h = absurd (omega arith)
  points_add_up places (r ∷ d) h =
      let points = points_with places (r ∷ d) in
      let k = cells_at places r in
      let ks = filter (λ j. not (same_row k j)) (keys_by places d) in
      counts_sum p (λ j. length (points j)) k ks
      ∙ ap (counted p) (sym (length-flat_map points (k ∷ ks)))
      ∙ count-Perm p (flat_map points (k ∷ ks)) (r ∷ d) (parts places (r ∷ d))

  pub values_add_up : (places : List ℕ) (i : ℕ) (d : List Row) → 0 < length d → after (of_groups (of_column p Count i) places d) (group_value p Sum) ≡ of_column p Count i d
  values_add_up places i [] h = absurd (omega arith)
  values_add_up places i (r ∷ d) h =
      let points = points_with places (r ∷ d) in
      let k = cells_at places r in
      let ks = filter (λ j. not (same_row k j)) (keys_by places d) in
      ap (λ ms. after (all_of ms) (group_value p Sum)) (columns_counted i points (k ∷ ks))
      ∙ counts_sum p (λ j. size_at i (points j)) k ks
      ∙ ap (counted p) (sizes i points (k ∷ ks))
      ∙ sym (count_is (values_at i (flat_map points (k ∷ ks))))
      ∙ group-Perm p Count (values_at i (flat_map points (k ∷ ks))) (values_at i (r ∷ d)) (Perm-map (column_of i) (parts places (r ∷ d)))
