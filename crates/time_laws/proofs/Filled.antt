-- Filled points: what stands in their identifiers; and filling twice is filling once.
use Rattle.std.proofs.Common.{◌≡◌, ℕ, Bool, true, false, not, ◌||◌, cond, List, [], ◌∷◌, ◌++◌, find, filter, map, length, Option, Some, refl, sym, ap, ◌∙◌, subst, arith, true≢false}
use Rattle.std.specs.List.{AllByRecursion, list_any, range_with_len}
use Rattle.std.proofs.lemmas.List.{append-nil, get_or_push, length-map, length_push, map-append, take_all}
use Rattle.vtl_lists.specs.Apart.{all_apart}
use Rattle.vtl_lists.proofs.Sorts.{AllByRecursion-filter}
use Rattle.vtl_lists.proofs.Alls.{all_both, all_filtered}
use Rattle.vtl_cell.specs.Row.{Row, column_of, same_row}
use Rattle.vtl_cell.specs.declared.cell.Cell.{Cell}
use Rattle.vtl_cell.specs.declared.cell.Cell.TheVariants as c
use Rattle.vtl_cell.proofs.Rows.{same_row-is, same_row-refl}
use Rattle.vtl_rows.specs.Tables.{cells_at}
use Rattle.vtl_series.specs.Series.{dated, series_rows}
use Rattle.vtl_series.specs.declared.extent.Extent.{Extent}
use Rattle.vtl_series.proofs.DatedLemmas.{front_is}
use Rattle.vtl_series.proofs.OrderLemmas as orders
use Rattle.vtl_time.specs.Periods.{period_at}
use Rattle.vtl_time.specs.declared.periods.Frequency.{Frequency}
use Rattle.vtl_tree.specs.Columns.{identifiers_of, measures_of, others_of, places_in}
use Rattle.vtl_tree.specs.DataSet.{IsDataSet, is_point}
use Rattle.vtl_tree.specs.Environment.{DataSet}
use Rattle.vtl_tree.specs.Structure.{columns_of, of_role}
use Rattle.vtl_tree.specs.declared.structure.Component.{Component}
use Rattle.vtl_tree.specs.declared.structure.Role.TheVariants as role
use Rattle.vtl_tree.specs.declared.structure.Structure.{Structure}
use Rattle.vtl_meaning.specs.Agreement.{values_in}
use Rattle.vtl_meaning.specs.Joined.{tuple_at, tuple_point, values_or_nulls}
use Rattle.vtl_meaning.specs.LookUps.{value_named, values_named}
use Rattle.vtl_meaning.specs.Points.{with_points}
use Rattle.vtl_meaning.proofs.AnalyticColumns.{identifier_cells}
use Rattle.vtl_meaning.proofs.LookUps.{named_cells}
use Rattle.vtl_meaning.proofs.OwnColumns.{columns_apart}
use Rattle.vtl_meaning.proofs.Places.{columns_split, first_cells, point_append, point_length}
use Rattle.vtl_meaning.proofs.TurnedKept.{front_same}
use Rattle.vtl_tuples.proofs.Lists.{map-map, map_same}
use Rattle.vtl_timing.specs.Times.{HasTime, fill_of, filled_keys, in_order, is_time, other_identifiers, series_columns, time_of, time_place}
use Rattle.vtl_timing.proofs.FilledPoints as filled
use Rattle.vtl_timing.proofs.FlowOrders.{own_time, time_at}
use Rattle.vtl_timing.proofs.SeriesColumns.{time_only}
use Rattle.time_laws.proofs.Alike.{AreAlike, series_same}
use Rattle.time_laws.proofs.Lists.{IsAmong, all_among}

-- ---- lists
longer : (xs : Row) (x : Cell) → [] ≡ xs ++ x ∷ [] → ⊥
longer xs x e = let l = length_push xs x in let n : 0 ≡ length (xs ++ x ∷ []) = ap length e in absurd (omega (arith, l, n))

behind_same : (us vs ws : Row) → us ++ vs ≡ us ++ ws → vs ≡ ws
behind_same [] vs ws e = e
behind_same (u ∷ us) vs ws e = let rest : us ++ vs ≡ us ++ ws = cc in behind_same us vs ws rest

map_self : {X : Type 0} (xs : List X) → map (λ x. x) xs ≡ xs
map_self [] = refl
map_self (x ∷ xs) = ap (λ l. x ∷ l) (map_self xs)

-- ---- points
module _ (e : Extent) (d : DataSet) (timed : HasTime d.structure) (h : IsDataSet d.structure d.points) where
  abbrev a : Structure
  a = d.structure

  abbrev xs : List Component
  xs = columns_of a

  abbrev ids : List Component
  ids = identifiers_of a

  abbrev others : List Component
  others = other_identifiers a

  abbrev sc : List Component
  sc = series_columns a

  abbrev by : List ℕ
  by = places_in xs others

  abbrev pub rows : List Row
  rows = series_rows e (time_place a) by d.points

  abbrev pub point : Row → Row
  point r = tuple_point (tuple_at ids (d ∷ []) (in_order a r))

  abbrev IsRow : Row → Type 0
  IsRow r = is_point sc r ≡ true

  once : all_apart same_row rows ≡ true
  once = orders.once e (time_place a) by d.points

  pub filled_is : fill_of e d ≡ map point rows
  filled_is = map-map (λ key. tuple_point (tuple_at ids (d ∷ []) key)) (in_order a) rows

  is_filled : (r : Row) → IsRow r → is_point xs (point r) ≡ true
  is_filled r i = filled.whole e d timed h once r i

  key_values : (r : Row) → IsRow r → values_named xs ids (point r) ≡ in_order a r
  key_values r i = sym (named_cells xs ids (point r)) ∙ identifier_cells a (point r) h.well_formed (is_filled r i) ∙ filled.key_of e d timed h once r i

  abbrev Stays : Row → Component → Type 0
  Stays r y = value_named xs (point r) y.name ≡ value_named sc r y.name

  each_stays : (r : Row) → IsRow r → AllByRecursion (Stays r) ids
  each_stays r i = filled.maps_same a h.well_formed timed (λ y. value_named xs (point r) y.name) (λ y. value_named sc r y.name) ids (key_values r i)

  others_stay : (r : Row) → IsRow r → values_in a others (point r) ≡ values_named sc others r
  others_stay r i = map_same (λ y. value_named xs (point r) y.name) (λ y. value_named sc r y.name) others (AllByRecursion-filter (Stays r) (λ x. not (is_time x)) ids (each_stays r i))

  abbrev t : Component
  t = (time_only a timed).item

  time_stays : (r : Row) → IsRow r → time_of a (point r) ≡ value_named sc r t.name
  time_stays r i =
      let z = point r in
      let f : Component → Cell = λ y. value_named xs z y.name in
      let only = (time_only a timed).only in
      let Stands : Component → Type 0 = λ y. is_time y ≡ true → f y ≡ column_of (time_place a) (map f ids) in
      let same = subst (AllByRecursion (Stays r)) only (AllByRecursion-filter (Stays r) is_time ids (each_stays r i)) in
      let passes = subst (AllByRecursion (λ x. is_time x ≡ true)) only (all_filtered is_time ids) in
      let stands = subst (AllByRecursion Stands) only (AllByRecursion-filter Stands is_time ids (time_at f ids timed).0) in
      sym (stands.0 passes.0 ∙ own_time a h.well_formed timed z (is_filled r i)) ∙ same.0

  -- the tuple of a row, and its period
  pub dated_is : (key : Row) (f : Frequency) (i : ℕ) → IsRow (dated f key i) → (values_in a others (point (dated f key i)) ≡ key) × (time_of a (point (dated f key i)) ≡ c.Period (period_at f i))
  dated_is key f i whole =
      let r = dated f key i in
      let g : Component → Cell = λ y. value_named sc r y.name in
      let split = map-append g others (filter is_time ids) ∙ ap (λ l. map g others ++ map g l) (time_only a timed).only in
      let both = front_same (map g others) key (g t) (c.Period (period_at f i)) (sym split ∙ filled.own_row a h.well_formed timed r whole) in
      (others_stay r whole ∙ both.0, time_stays r whole ∙ both.1)

  pub is_row : (q : Row) → is_point xs q ≡ true → (f : Frequency) (i : ℕ) → IsRow (dated f (cells_at by q) i)
  is_row q i f n = point_append others (filter is_time ids) (cells_at by q) (c.Period (period_at f n) ∷ []) (filled.front_is a h.well_formed timed q i) (filled.last_is a h.well_formed timed f n)

  -- what holds of each row for a point's tuple and a period
  pub each_row : (P : Row → Type 0) → ((q : Row) → is_point xs q ≡ true → (f : Frequency) (i : ℕ) → P (dated f (cells_at by q) i)) → AllByRecursion P rows
  each_row P f = filled.series_each e (time_place a) by (λ q. is_point xs q ≡ true) P f d.points h.typed

  pub are_rows : AllByRecursion IsRow rows
  are_rows = each_row IsRow is_row

  -- ---- the series of filled points
  abbrev beside : List ℕ
  beside = range_with_len 0 (length by)

  alike : (q : Row) → is_point xs q ≡ true → (f : Frequency) (i : ℕ) → AreAlike point (λ r. r) (time_place a) (length by) by beside (dated f (cells_at by q) i)
  alike q k f i =
      let key = cells_at by q in
      let v : Cell = c.Period (period_at f i) in
      let wide : length key ≡ length by = length-map by (λ n. column_of n q) in
      let is = dated_is key f i (is_row q k f i) in (
        named_cells xs others (point (dated f key i)) ∙ is.0 ∙ sym (front_is key v (length by) wide),
        is.1 ∙ sym (get_or_push key v c.Null (length by) wide),
      )

  abbrev again : DataSet
  again = with_points a (fill_of e d)

  module _ (same : series_rows e (length by) beside rows ≡ rows) where
    keys_same : filled_keys e again ≡ filled_keys e d
    keys_same =
        ap (map (in_order a))
        (ap (series_rows e (time_place a) by) filled_is
        ∙ series_same point (λ r. r) (time_place a) (length by) by beside e rows (each_row (AreAlike point (λ r. r) (time_place a) (length by) by beside) alike)
        ∙ ap (series_rows e (length by) beside) (map_self rows) ∙ same)

    -- ---- the point at a key
    abbrev has_key : Row → Row → Bool
    has_key r z = same_row (values_in a ids z) (in_order a r)

    own_key : (r : Row) → IsRow r → has_key r (point r) ≡ true
    own_key r i = ap (λ k. same_row k (in_order a r)) (key_values r i) ∙ same_row-refl (in_order a r)

    found : (r : Row) → IsRow r → (ys : List Row) → AllByRecursion IsRow ys → IsAmong ys r → find (has_key r) (map point ys) ≡ Some (point r)
    found r i [] all m = absurd (true≢false (sym m))
    found r i (y ∷ ys) all m = go (has_key r (point y)) refl (same_row r y) refl m (found r i ys all.1)
      where
        go : (b : Bool) → has_key r (point y) ≡ b → (s : Bool) → same_row r y ≡ s → (s || list_any (same_row r) ys) ≡ true → (IsAmong ys r → find (has_key r) (map point ys) ≡ Some (point r)) → cond b (Some (point y)) (find (has_key r) (map point ys)) ≡ Some (point r)
        go true k s n o later =
            let orders = sym (key_values y all.0) ∙ same_row-is (values_in a ids (point y)) (in_order a r) k in
            ap (λ z. Some (point z)) (filled.order_back a h.well_formed timed y r all.0 i orders)
        go false k true n o later = absurd (true≢false (sym (own_key r i) ∙ ap (λ z. has_key r (point z)) (same_row-is r y n) ∙ k))
        go false k false n o later = later o

    -- what stands behind the identifiers of a filled point
    behind_is : (r : Row) → IsRow r → (o : Option Row) → point r ≡ in_order a r ++ (values_or_nulls a (measures_of a) o ++ values_or_nulls a (of_role role.Attribute a) o)
        → values_in a (measures_of a) (point r) ++ values_in a (of_role role.Attribute a) (point r) ≡ values_or_nulls a (measures_of a) o ++ values_or_nulls a (of_role role.Attribute a) o
    behind_is r i o e =
        let z = point r in
        let g : Component → Cell = λ y. value_named xs z y.name in
        let many = point_length xs z (is_filled r i) in
        let own : map g xs ≡ z =
        sym (named_cells xs xs z) ∙ ap (λ l. cells_at (places_in l xs) z) (sym (append-nil xs)) ∙ first_cells xs [] z (columns_apart a h.well_formed) (omega (arith, many)) ∙ take_all (length xs) z (omega (arith, many)) in
        let parts : map g xs ≡ in_order a r ++ map g (others_of a) = ap (map g) (columns_split a) ∙ map-append g ids (others_of a) ∙ ap (λ l. l ++ map g (others_of a)) (key_values r i) in
        sym (map-append g (measures_of a) (of_role role.Attribute a))
        ∙ behind_same (in_order a r) (map g (others_of a)) (values_or_nulls a (measures_of a) o ++ values_or_nulls a (of_role role.Attribute a) o) (sym parts ∙ own ∙ e)

    kept : IsDataSet a (fill_of e d)
    kept = filled.fill_kept e d timed h once

    abbrev key_in : DataSet → Row → Option Row
    key_in s r = find (has_key r) s.points

    point_again : (r : Row) → IsRow r → IsAmong rows r → tuple_point (tuple_at ids (again ∷ []) (in_order a r)) ≡ point r
    point_again r i m =
        let first = filled.point_is e d timed h once r in
        let second = filled.point_is e again timed kept (orders.once e (time_place a) by (fill_of e d)) r in
        second
        ∙ ap (λ o. in_order a r ++ (values_or_nulls a (measures_of a) o ++ values_or_nulls a (of_role role.Attribute a) o)) (ap (find (has_key r)) filled_is ∙ found r i rows are_rows m)
        ∙ ap (λ l. in_order a r ++ l) (behind_is r i (key_in d r) first) ∙ sym first

    pub fill_again : fill_of e again ≡ fill_of e d
    fill_again =
        let at : Row → Row = λ key. tuple_point (tuple_at ids (again ∷ []) key) in
        ap (map at) keys_same ∙ map-map at (in_order a) rows
        ∙ map_same (λ r. at (in_order a r)) point rows (all_both IsRow (IsAmong rows) (λ r. at (in_order a r) ≡ point r) point_again rows are_rows (all_among rows)) ∙ sym filled_is
