-- Rows of series are made of the times and of the cells beside them, wherever these stand.
use Rattle.std.proofs.Common.{◌≡◌, ℕ, ◌*◌, Bool, true, false, cond, ◌&&◌, ◌||◌, List, [], ◌∷◌, map, nat_le, refl, ap, ◌∙◌}
use Rattle.std.specs.List.{AllByRecursion, filter, flat_map, range_with_len}
use Rattle.std.specs.Option.{option_map_or}
use Rattle.vtl_cell.specs.Row.{Row, column_of, same_row}
use Rattle.vtl_index.specs.Groups.{each_once}
use Rattle.vtl_rows.specs.Tables.{cells_at}
use Rattle.vtl_series.specs.Series.{dated, frequencies, is_spanned, number_of, period_in, rows_by, seen_by, series_at, series_rows, some_number, tuple_rows}
use Rattle.vtl_series.specs.declared.extent.Extent.{Extent}
use Rattle.vtl_series.specs.declared.extent.Extent.TheVariants as extent
use Rattle.vtl_time.specs.Periods.{parts_in_year}
use Rattle.vtl_time.specs.declared.periods.Frequency.{Frequency}

module _ {X : Type 0} (f g : X → Row) (on other : ℕ) (by beside : List ℕ) where
  -- the same tuple, and the same time
  abbrev pub AreAlike : X → Type 0
  AreAlike x = (cells_at by (f x) ≡ cells_at beside (g x)) × (column_of on (f x) ≡ column_of other (g x))

  some_same : (test : ℕ → Bool) (q : Frequency) (xs : List X) → AllByRecursion AreAlike xs → some_number test q on (map f xs) ≡ some_number test q other (map g xs)
  some_same test q [] all = refl
  some_same test q (x ∷ xs) all = λ i. option_map_or test (number_of q (period_in (all.0.1 i))) false || some_same test q xs all.1 i

  own_some : (key : Row) (test : ℕ → Bool) (q : Frequency) (xs : List X) → AllByRecursion AreAlike xs → some_number test q on (rows_by by (map f xs) key) ≡ some_number test q other (rows_by beside (map g xs) key)
  own_some key test q [] all = refl
  own_some key test q (x ∷ xs) all = ap (λ k. some_number test q on (cond (same_row k key) (f x ∷ us) us)) all.0.0 ∙ go (same_row (cells_at beside (g x)) key) (own_some key test q xs all.1)
    where
      us : List Row
      us = rows_by by (map f xs) key

      vs : List Row
      vs = rows_by beside (map g xs) key

      go : (b : Bool) → some_number test q on us ≡ some_number test q other vs → some_number test q on (cond b (f x ∷ us) us) ≡ some_number test q other (cond b (g x ∷ vs) vs)
      go true ih = λ i. option_map_or test (number_of q (period_in (all.0.1 i))) false || ih i
      go false ih = ih

  seen_some : (e : Extent) (key : Row) (test : ℕ → Bool) (q : Frequency) (xs : List X) → AllByRecursion AreAlike xs
      → some_number test q on (seen_by e (map f xs) (rows_by by (map f xs) key)) ≡ some_number test q other (seen_by e (map g xs) (rows_by beside (map g xs) key))
  seen_some extent.Single key test q xs all = own_some key test q xs all
  seen_some extent.All key test q xs all = some_same test q xs all

  part_same : (e : Extent) (xs : List X) → AllByRecursion AreAlike xs → (key : Row) (q : Frequency) → series_at e on (map f xs) (rows_by by (map f xs) key) key q ≡ series_at e other (map g xs) (rows_by beside (map g xs) key) key q
  part_same e xs all key q =
      let us = rows_by by (map f xs) key in
      let vs = rows_by beside (map g xs) key in
      let same : is_spanned q on us (seen_by e (map f xs) us) ≡ is_spanned q other vs (seen_by e (map g xs) vs) =
      λ i n. own_some key (λ m. true) q xs all i && (seen_some e key (λ m. nat_le m n) q xs all i && seen_some e key (λ m. nat_le n m) q xs all i) in
      ap (λ test. map (dated q key) (filter test (range_with_len 0 (10000 * parts_in_year q)))) same

  tuples_same : (e : Extent) (xs : List X) → AllByRecursion AreAlike xs → (key : Row) → tuple_rows e on by (map f xs) key ≡ tuple_rows e other beside (map g xs) key
  tuples_same e xs all key =
      let same : series_at e on (map f xs) (rows_by by (map f xs) key) key ≡ series_at e other (map g xs) (rows_by beside (map g xs) key) key = λ i q. part_same e xs all key q i in
      ap (λ F. flat_map F frequencies) same

  cells_same : (xs : List X) → AllByRecursion AreAlike xs → map (cells_at by) (map f xs) ≡ map (cells_at beside) (map g xs)
  cells_same [] all = refl
  cells_same (x ∷ xs) all = λ i. all.0.0 i ∷ cells_same xs all.1 i

  pub series_same : (e : Extent) (xs : List X) → AllByRecursion AreAlike xs → series_rows e on by (map f xs) ≡ series_rows e other beside (map g xs)
  series_same e xs all =
      let same : tuple_rows e on by (map f xs) ≡ tuple_rows e other beside (map g xs) = λ i key. tuples_same e xs all key i in
      λ i. flat_map (same i) (each_once same_row (cells_same xs all i))
