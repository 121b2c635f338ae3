-- What `fill_time_series` gives is of the profile where its operand is.
use Rattle.std.proofs.Common.{◌≡◌, ℕ, Bool, List, [], ◌∷◌, ◌++◌, map, Option, Some, None, refl}
use Rattle.std.specs.Prelude.{find}
use Rattle.std.specs.List.{AllByRecursion, flat_map}
use Rattle.vtl_lists.proofs.Alls.{all_append, all_each, all_more}
use Rattle.vtl_lists.proofs.Sorts.{AllByRecursion-map}
use Rattle.vtl_decimal.specs.Settings.{Settings}
use Rattle.vtl_cell.specs.Profile.{IsOfProfile}
use Rattle.vtl_cell.specs.Row.{Row, same_row}
use Rattle.vtl_cell.specs.declared.cell.Cell.TheVariants as c
use Rattle.vtl_rows.specs.Tables.{cells_at}
use Rattle.vtl_time.specs.Periods.{period_at}
use Rattle.vtl_time.specs.declared.periods.Frequency.{Frequency}
use Rattle.vtl_series.specs.Series.{dated, frequencies, keys_by, numbers_of, rows_by, seen_by, series_at, series_rows, tuple_rows}
use Rattle.vtl_series.specs.declared.extent.Extent.{Extent}
use Rattle.vtl_tree.specs.Columns.{identifiers_of, places_in}
use Rattle.vtl_tree.specs.DataSet.{AreOfProfile}
use Rattle.vtl_tree.specs.Environment.{DataSet}
use Rattle.vtl_tree.specs.Structure.{columns_of}
use Rattle.vtl_tree.specs.declared.structure.Component.{Component}
use Rattle.vtl_tree.specs.declared.structure.Structure.{Structure}
use Rattle.vtl_meaning.specs.Agreement.{values_in}
use Rattle.vtl_meaning.specs.Joined.{Part, attributes_in, measures_in, tuple_at, tuple_point, values_or_nulls}
use Rattle.vtl_tuples.proofs.Onces.{once_hold}
use Rattle.vtl_meaning.proofs.JoinParts.{found_is}
use Rattle.vtl_meaning.proofs.JoinProfiles.{values_hold}
use Rattle.vtl_meaning.proofs.GroupPoints.{column_gives}
use Rattle.vtl_timing.specs.Times.{fill_of, filled_keys, in_order, other_identifiers, series_columns, time_place}

module _ (p : Settings) where
  abbrev Holds : Row → Type 0
  Holds r = AllByRecursion (IsOfProfile p) r

  -- ---- rows of series
  cells_hold : (places : List ℕ) (r : Row) → Holds r → Holds (cells_at places r)
  cells_hold [] r h = tt
  cells_hold (i ∷ places) r h = (column_gives p i r h, cells_hold places r h)

  keys_hold : (by : List ℕ) (rows : List Row) → AllByRecursion Holds rows → AllByRecursion Holds (keys_by by rows)
  keys_hold by rows h = once_hold Holds same_row (map (cells_at by) rows) (AllByRecursion-map (cells_at by) Holds rows (all_more Holds (λ r. Holds (cells_at by r)) (cells_hold by) rows h))

  dated_hold : (f : Frequency) (key : Row) (is : List ℕ) → Holds key → AllByRecursion Holds (map (dated f key) is)
  dated_hold f key [] h = tt
  dated_hold f key (i ∷ is) h = (all_append (IsOfProfile p) key (c.Period (period_at f i) ∷ []) h (tt, tt), dated_hold f key is h)

  frequencies_hold : (e : Extent) (on : ℕ) (rows own : List Row) (key : Row) (fs : List Frequency) → Holds key → AllByRecursion Holds (flat_map (series_at e on rows own key) fs)
  frequencies_hold e on rows own key [] h = tt
  frequencies_hold e on rows own key (f ∷ fs) h =
      all_append Holds (series_at e on rows own key f) (flat_map (series_at e on rows own key) fs) (dated_hold f key (numbers_of f on own (seen_by e rows own)) h) (frequencies_hold e on rows own key fs h)

  tuples_hold : (e : Extent) (on : ℕ) (by : List ℕ) (rows keys : List Row) → AllByRecursion Holds keys → AllByRecursion Holds (flat_map (tuple_rows e on by rows) keys)
  tuples_hold e on by rows [] h = tt
  tuples_hold e on by rows (key ∷ keys) h =
      all_append Holds (tuple_rows e on by rows key) (flat_map (tuple_rows e on by rows) keys) (frequencies_hold e on rows (rows_by by rows key) key frequencies h.0) (tuples_hold e on by rows keys h.1)

  series_hold : (e : Extent) (on : ℕ) (by : List ℕ) (rows : List Row) → AllByRecursion Holds rows → AllByRecursion Holds (series_rows e on by rows)
  series_hold e on by rows h = tuples_hold e on by rows (keys_by by rows) (keys_hold by rows h)

  ordered_hold : (a : Structure) (keys : List Row) → AllByRecursion Holds keys → AllByRecursion Holds (map (in_order a) keys)
  ordered_hold a keys h = AllByRecursion-map (in_order a) Holds keys (all_more Holds (λ k. Holds (in_order a k)) (λ k i. values_hold (IsOfProfile p) tt (series_columns a) (identifiers_of a) k i) keys h)

  -- ---- the points at the keys
  part_holds : (a : Structure) (ys : List Component) (o : Option Row) → ((q : Row) → o ≡ Some q → Holds q) → Holds (values_or_nulls a ys o)
  part_holds a ys None h = AllByRecursion-map (λ y. c.Null) (IsOfProfile p) ys (all_each (λ y. IsOfProfile p c.Null) (λ y. tt) ys)
  part_holds a ys (Some q) h = values_hold (IsOfProfile p) tt (columns_of a) ys q (h q refl)

  point_holds : (d : DataSet) (key : Row) → AreOfProfile p d.points → Holds key → Holds (tuple_point (tuple_at (identifiers_of d.structure) (d ∷ []) key))
  point_holds d key h i =
      all_append (IsOfProfile p) (key ++ (measures_in part ++ [])) (attributes_in part ++ [])
      (all_append (IsOfProfile p) key (measures_in part ++ []) i (all_append (IsOfProfile p) (measures_in part) [] (part_holds d.structure _ part.point held) tt))
      (all_append (IsOfProfile p) (attributes_in part) [] (part_holds d.structure _ part.point held) tt)
    where
      test : Row → Bool
      test q = same_row (values_in d.structure (identifiers_of d.structure) q) key

      part : Part
      part = record { structure = d.structure; point = find test d.points }

      held : (q : Row) → part.point ≡ Some q → Holds q
      held q e = found_is Holds test d.points q h e

  points_hold : (d : DataSet) (keys : List Row) → AreOfProfile p d.points → AllByRecursion Holds keys → AllByRecursion Holds (map (λ key. tuple_point (tuple_at (identifiers_of d.structure) (d ∷ []) key)) keys)
  points_hold d [] h i = tt
  points_hold d (key ∷ keys) h i = (point_holds d key h i.0, points_hold d keys h i.1)

  pub fill_profile : (e : Extent) (d : DataSet) → AreOfProfile p d.points → AreOfProfile p (fill_of e d)
  fill_profile e d h =
      let by : List ℕ = places_in (columns_of d.structure) (other_identifiers d.structure) in
      points_hold d (filled_keys e d) h (ordered_hold d.structure (series_rows e (time_place d.structure) by d.points) (series_hold e (time_place d.structure) by d.points h))
