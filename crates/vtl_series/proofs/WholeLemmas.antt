-- Which rows series have.
use Rattle.std.proofs.Common.{◌≡◌, ◌<◌, ◌*◌, ℕ, Bool, true, false, ◌&&◌, List, map, sym, ap, ◌∙◌, subst, arith, nat_le}
use Rattle.std.specs.List.{AllByRecursion, list_any, range_with_len}
use Rattle.std.specs.Option.{option_map_or}
use Rattle.std.proofs.lemmas.Bool.{and_parts}
use Rattle.vtl_lists.proofs.Alls.{all_each, numbers_within}
use Rattle.vtl_lists.proofs.Sorts.{AllByRecursion-map}
use Rattle.vtl_lists.proofs.Tests.{same_tests}
use Rattle.vtl_cell.specs.Row.{Row, same_row}
use Rattle.vtl_cell.proofs.Rows.{same_row-is, same_row-refl, same_row-sym}
use Rattle.vtl_index.proofs.KeyGroups.{once_all}
use Rattle.vtl_rows.specs.Tables.{cells_at}
use Rattle.vtl_time.specs.Periods.{parts_in_year}
use Rattle.vtl_time.specs.declared.periods.Frequency.{Frequency}
use Rattle.vtl_series.specs.declared.extent.Extent.{Extent}
use Rattle.vtl_series.specs.declared.extent.Extent.TheVariants as extent
use Rattle.vtl_series.specs.Series.{dated, frequencies, is_spanned, keys_by, number_at, numbers_of, rows_by, seen_by, series_at, series_rows, some_number, tuple_rows}
use Rattle.vtl_series.proofs.DatedLemmas.{dated_are, some_frequency}
use Rattle.vtl_series.proofs.ListLemmas.{all_flat_map, all_kept, any_filter, any_flat_map, any_gives, any_map, any_more, any_number}

module _ (e : Extent) (on : ℕ) (by : List ℕ) (rows : List Row) where
  -- whether a period belongs to the series of a tuple
  abbrev pub spanned : Row → Frequency → ℕ → Bool
  spanned key f i = is_spanned f on (rows_by by rows key) (seen_by e rows (rows_by by rows key)) i

  abbrev rows_at : Row → List Row
  rows_at = tuple_rows e on by rows

  -- what holds of each period that belongs to them
  pub all_rows : (P : Row → Type 0) (key : Row) → ((f : Frequency) (i : ℕ) → i < 10000 * parts_in_year f → spanned key f i ≡ true → P (dated f key i)) → AllByRecursion P (rows_at key)
  all_rows P key h =
      all_flat_map (series_at e on rows (rows_by by rows key) key) P frequencies
      (all_each (λ f. AllByRecursion P (series_at e on rows (rows_by by rows key) key f))
      (λ f. AllByRecursion-map (dated f key) P (numbers_of f on (rows_by by rows key) (seen_by e rows (rows_by by rows key)))
      (all_kept (λ i. i < 10000 * parts_in_year f) (λ i. P (dated f key i)) (spanned key f) (h f) (range_with_len 0 (10000 * parts_in_year f)) (numbers_within 0 (10000 * parts_in_year f) (10000 * parts_in_year f) (omega arith))))
      frequencies)

  -- and what follows from some row of theirs that passes
  some_row : (p : Row → Bool) (b : Bool) (key : Row) → ((f : Frequency) (i : ℕ) → spanned key f i ≡ true → p (dated f key i) ≡ true → b ≡ true) → list_any p (rows_at key) ≡ true → b ≡ true
  some_row p b key h =
      any_gives (λ r. p r ≡ true → b ≡ true) p b (rows_at key) (all_rows (λ r. p r ≡ true → b ≡ true) key (λ f i k s. h f i s)) (λ r g. g)

  -- a tuple that has a row
  has_row : (t : ℕ → Bool) (f : Frequency) (key : Row) → some_number t f on (rows_by by rows key) ≡ true → list_any (same_row key) (keys_by by rows) ≡ true
  has_row t f key h =
      once_all (map (cells_at by) rows) key ∙ any_map (same_row key) (cells_at by) rows
      ∙ any_more (λ r. same_row (cells_at by r) key && option_map_or t (number_at on f r) false) (λ r. same_row key (cells_at by r))
      (λ r k. same_row-sym key (cells_at by r) ∙ (and_parts (same_row (cells_at by r) key) (option_map_or t (number_at on f r) false) k).0) rows
      (sym (any_filter (λ r. option_map_or t (number_at on f r) false) (λ r. same_row (cells_at by r) key) rows) ∙ h)

  -- a row of a tuple that passes
  pub row_there : (p : Row → Bool) (key : Row) (f : Frequency) (i : ℕ) → i < 10000 * parts_in_year f → spanned key f i ≡ true → p (dated f key i) ≡ true → list_any p (rows_at key) ≡ true
  row_there p key f i k s h =
      any_flat_map p (series_at e on rows (rows_by by rows key) key) frequencies
      ∙ some_frequency (λ g. list_any p (series_at e on rows (rows_by by rows key) key g)) f
      (any_map p (dated f key) (numbers_of f on (rows_by by rows key) (seen_by e rows (rows_by by rows key)))
      ∙ any_number (λ j. p (dated f key j)) (spanned key f) (10000 * parts_in_year f) i k s h)

  -- among the rows of all tuples, where it is one of those that are there
  pub row_among : (p : Row → Bool) (key : Row) → list_any (same_row key) (keys_by by rows) ≡ true → list_any p (rows_at key) ≡ true → list_any p (series_rows e on by rows) ≡ true
  row_among p key there h =
      any_flat_map p rows_at (keys_by by rows)
      ∙ any_more (same_row key) (λ other. list_any p (rows_at other)) (λ other s. subst (λ k. list_any p (rows_at k) ≡ true) (same_row-is key other s) h) (keys_by by rows) there

  pub exactly : (key : Row) (f : Frequency) (i : ℕ) → i < 10000 * parts_in_year f → list_any (same_row (dated f key i)) (series_rows e on by rows) ≡ spanned key f i
  exactly key f i k = same_tests (list_any (same_row (dated f key i)) (series_rows e on by rows)) (spanned key f i) to back
    where
      one : (other : Row) (g : Frequency) (j : ℕ) → spanned other g j ≡ true → same_row (dated f key i) (dated g other j) ≡ true → spanned key f i ≡ true
      one other g j s h =
          let are = dated_are key other f g i j h in
          ap (λ n. spanned key f n) are.number ∙ ap (λ h. spanned key h j) are.frequency ∙ ap (λ r. spanned r g j) are.tuple ∙ s

      to : list_any (same_row (dated f key i)) (series_rows e on by rows) ≡ true → spanned key f i ≡ true
      to h =
          any_gives (λ other. Unit {0}) (λ other. list_any (same_row (dated f key i)) (rows_at other)) (spanned key f i) (keys_by by rows) (all_each (λ other. Unit {0}) (λ other. tt) (keys_by by rows))
          (λ other u. some_row (same_row (dated f key i)) (spanned key f i) other (one other))
          (sym (any_flat_map (same_row (dated f key i)) rows_at (keys_by by rows)) ∙ h)

      back : spanned key f i ≡ true → list_any (same_row (dated f key i)) (series_rows e on by rows) ≡ true
      back s =
          let own = and_parts (some_number (λ j. true) f on (rows_by by rows key)) (some_number (λ j. nat_le j i) f on (seen_by e rows (rows_by by rows key)) && some_number (λ j. nat_le i j) f on (seen_by e rows (rows_by by rows key))) s in
          row_among (same_row (dated f key i)) key (has_row (λ j. true) f key own.0) (row_there (same_row (dated f key i)) key f i k s (same_row-refl (dated f key i)))

-- ---- ALL contains SINGLE
module _ (on : ℕ) (by : List ℕ) (rows : List Row) where
  pub among_all : (t : ℕ → Bool) (f : Frequency) (key : Row) → some_number t f on (rows_by by rows key) ≡ true → some_number t f on rows ≡ true
  among_all t f key h =
      any_more (λ r. same_row (cells_at by r) key && option_map_or t (number_at on f r) false) (λ r. option_map_or t (number_at on f r) false)
      (λ r k. (and_parts (same_row (cells_at by r) key) (option_map_or t (number_at on f r) false) k).1) rows
      (sym (any_filter (λ r. option_map_or t (number_at on f r) false) (λ r. same_row (cells_at by r) key) rows) ∙ h)

  all_spanned : (key : Row) (f : Frequency) (i : ℕ) → spanned extent.Single on by rows key f i ≡ true → spanned extent.All on by rows key f i ≡ true
  all_spanned key f i s =
      let own = rows_by by rows key in
      let there = and_parts (some_number (λ j. true) f on own) (some_number (λ j. nat_le j i) f on own && some_number (λ j. nat_le i j) f on own) s in
      let ends = and_parts (some_number (λ j. nat_le j i) f on own) (some_number (λ j. nat_le i j) f on own) there.1 in
      ap (λ b. b && (some_number (λ j. nat_le j i) f on rows && some_number (λ j. nat_le i j) f on rows)) there.0
      ∙ ap (λ b. b && some_number (λ j. nat_le i j) f on rows) (among_all (λ j. nat_le j i) f key ends.0)
      ∙ among_all (λ j. nat_le i j) f key ends.1

  pub contained : AllByRecursion (λ r. list_any (same_row r) (series_rows extent.All on by rows) ≡ true) (series_rows extent.Single on by rows)
  contained =
      let P : Row → Type 0 = λ r. list_any (same_row r) (series_rows extent.All on by rows) ≡ true in
      all_flat_map (rows_at extent.Single on by rows) P (keys_by by rows)
      (all_each (λ key. AllByRecursion P (rows_at extent.Single on by rows key))
      (λ key. all_rows extent.Single on by rows P key (λ f i k s. exactly extent.All on by rows key f i k ∙ all_spanned key f i s)) (keys_by by rows))
