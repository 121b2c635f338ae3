-- Time operators: what one gives at a point is made of the points of its series, which stand together in both runs.
use Rattle.lineage_laws.proofs.Columns.{IsIdentifierOf, agree_joined, both_ok, own_identifier_names, same_values}
use Rattle.lineage_laws.proofs.Fulls.{Keys, key_tuple_agrees}
use Rattle.lineage_laws.proofs.Joins.{AreTwins, Twin, first_of, second_of}
use Rattle.lineage_laws.proofs.Rows.{agree_map, agree_map_all, same_identifier, same_key, same_named}
use Rattle.lineage_laws.proofs.Togethers.{both_value, same_map, together_all, together_any, together_filter, together_find, together_map, together_more, together_self}
use Rattle.lineage_laws.specs.Agree.{Agree, Agreeing, Both, IsKnown, Known, Together}
use Rattle.std.proofs.Common.{◌≡◌, ℕ, ◌<◌, Bool, true, false, not, ◌&&◌, ◌*◌, List, [], ◌∷◌, ◌++◌, map, filter, nat_le, pos, ℤ, Ok, Some, refl, sym, ap, ◌∙◌, subst}
use Rattle.std.proofs.lemmas.List.{append-nil, length-map, map-append}
use Rattle.std.specs.List.{AllByRecursion, flat_map, range_with_len}
use Rattle.std.specs.Option.{option_map_or}
use Rattle.std.specs.Ordering.{is_le, is_lt}
use Rattle.std.specs.Prelude.{if◌then◌else◌}
use Rattle.vtl_lists.proofs.Sorts.{AllByRecursion-filter}
use Rattle.vtl_lists.proofs.Alls.{all_both}
use Rattle.vtl_decimal.specs.Settings.{Settings}
use Rattle.vtl_cell.specs.Groups.{group_value}
use Rattle.vtl_cell.specs.Kinds.{is_null}
use Rattle.vtl_cell.specs.Order.{cell_cmp, same_cell}
use Rattle.vtl_cell.specs.Outcome.{Outcome, faults_by}
use Rattle.vtl_cell.specs.Row.{Row, column_of, same_row}
use Rattle.vtl_cell.specs.ScalarPeriods.{frequency_of, shifted_of}
use Rattle.vtl_cell.specs.declared.cell.Cell.{Cell}
use Rattle.vtl_cell.specs.declared.cell.Cell.TheVariants as c
use Rattle.vtl_cell.specs.declared.operator.AggKind.TheVariants as agg
use Rattle.vtl_cell.specs.declared.operator.ScalarOp.TheVariants as op
use Rattle.vtl_index.specs.Groups.{each_once}
use Rattle.vtl_rows.specs.Tables.{cells_at}
use Rattle.vtl_series.specs.Series.{dated, frequencies, is_spanned, keys_by, number_of, period_in, rows_by, seen_by, series_at, series_rows, some_number, tuple_rows}
use Rattle.vtl_series.specs.declared.extent.Extent.{Extent}
use Rattle.vtl_series.specs.declared.extent.Extent.TheVariants as extent
use Rattle.vtl_time.specs.Periods.{parts_in_year}
use Rattle.vtl_time.specs.declared.periods.Frequency.{Frequency}
use Rattle.vtl_tree.specs.Columns.{identifiers_of, measures_of, others_of, places_in}
use Rattle.vtl_tree.specs.Environment.{DataSet}
use Rattle.vtl_tree.specs.Measures.{is_measure}
use Rattle.vtl_tree.specs.Structure.{columns_of, key_width, of_role}
use Rattle.vtl_tree.specs.Value.{called}
use Rattle.vtl_tree.specs.declared.calls.TimeOp.{TimeOp}
use Rattle.vtl_tree.specs.declared.calls.TimeOp.TheVariants as times
use Rattle.vtl_tree.specs.declared.structure.Component.{Component}
use Rattle.vtl_tree.specs.declared.structure.Role.TheVariants as role
use Rattle.vtl_tree.specs.declared.structure.Structure.{Structure}
use Rattle.vtl_meaning.proofs.Kept.{ok_is}
use Rattle.vtl_meaning.proofs.LookUps.{named_cells}
use Rattle.vtl_meaning.proofs.Places.{columns_split}
use Rattle.vtl_meaning.specs.Aggregates.{Made, group_fault as point_fault}
use Rattle.vtl_meaning.specs.Agreement.{values_in}
use Rattle.vtl_meaning.specs.Analytics.{each_point as each_made, point_of}
use Rattle.vtl_meaning.specs.Joined.{tuple_at, tuple_point}
use Rattle.vtl_meaning.specs.LookUps.{value_named}
use Rattle.vtl_meaning.specs.Points.{cell_or_null, with_points}
use Rattle.vtl_timing.proofs.FlowOrders.{front_cell, time_at}
use Rattle.vtl_timing.proofs.FlowsKept.{free, identify}
use Rattle.vtl_timing.specs.TimeShapes.{IsFlowed}
use Rattle.vtl_timing.specs.Timed.{IsTimed, extent_of, timed_of}
use Rattle.vtl_timing.specs.Times.{HasTime, before, by_measure, fill_of, filled_keys, flow_value, in_one_series, in_order, is_time, other_identifiers, previous, series_columns, series_of, shifted_value, stock_value, time_of, time_place, timeshift_of, up_to}
use Rattle.lineage_laws.specs.Over.{Operand, attribute_sources, columns_from, measure_sources, no_pairs, of_join, of_left, source_named}

-- ---- rows of series, which are made of the times and of the other identifiers alone
module _ (on : ℕ) (by : List ℕ) where
  abbrev Alike : Row → Row → Type 0
  Alike r q = (cells_at by r ≡ cells_at by q) × (column_of on r ≡ column_of on q)

  some_same : (test : ℕ → Bool) (f : Frequency) (us vs : List Row) → Together Alike us vs → some_number test f on us ≡ some_number test f on vs
  some_same test f us vs t = together_any Alike _ _ (λ r q h i. option_map_or test (number_of f (period_in (h.1 i))) false) us vs t

  spanned_same : (f : Frequency) (us vs seen other : List Row) → Together Alike us vs → Together Alike seen other → is_spanned f on us seen ≡ is_spanned f on vs other
  spanned_same f us vs seen other t u = λ i n. some_same (λ m. true) f us vs t i && (some_same (λ m. nat_le m n) f seen other u i && some_same (λ m. nat_le n m) f seen other u i)

  own_rows : (us vs : List Row) → Together Alike us vs → (key : Row) → Together Alike (rows_by by us key) (rows_by by vs key)
  own_rows us vs t key = together_filter Alike (λ r. same_row (cells_at by r) key) (λ r. same_row (cells_at by r) key) (λ r q h i. same_row (h.0 i) key) us vs t

  seen_rows : (e : Extent) (us vs own other : List Row) → Together Alike us vs → Together Alike own other → Together Alike (seen_by e us own) (seen_by e vs other)
  seen_rows extent.Single us vs own other t u = u
  seen_rows extent.All us vs own other t u = t

  series_is : (e : Extent) (us vs : List Row) → Together Alike us vs → (key : Row) (f : Frequency) → series_at e on us (rows_by by us key) key f ≡ series_at e on vs (rows_by by vs key) key f
  series_is e us vs t key f =
      let own = own_rows us vs t key in
      ap (λ test. map (dated f key) (filter test (range_with_len 0 (10000 * parts_in_year f)))) (spanned_same f (rows_by by us key) (rows_by by vs key) (seen_by e us (rows_by by us key)) (seen_by e vs (rows_by by vs key)) own (seen_rows e us vs (rows_by by us key) (rows_by by vs key) t own))

  flats_same : {X Y : Type 0} (f g : X → List Y) → ((x : X) → f x ≡ g x) → (xs : List X) → flat_map f xs ≡ flat_map g xs
  flats_same f g h [] = refl
  flats_same f g h (x ∷ xs) = λ i. h x i ++ flats_same f g h xs i

  pub rows_same : (e : Extent) (us vs : List Row) → Together Alike us vs → series_rows e on by us ≡ series_rows e on by vs
  rows_same e us vs t =
      flats_same (tuple_rows e on by us) (tuple_rows e on by vs) (λ key. flats_same (series_at e on us (rows_by by us key) key) (series_at e on vs (rows_by by vs key) key) (series_is e us vs t key) frequencies) (keys_by by us)
      ∙ ap (λ keys. flat_map (tuple_rows e on by vs) (each_once same_row keys)) (same_map Alike (cells_at by) (cells_at by) (λ r q h. h.0) us vs t)

module _ (known : Known) (a : Operand) where
  abbrev Rows : Row → Row → Type 0
  Rows = Agree known (columns_from a.structure a.sources)

  abbrev xs : List Component
  xs = columns_of a.structure

  -- ---- columns that are made at each point
  module _ (s : Structure) (P : Component → Type 0) (all : AllByRecursion P (identifiers_of s)) (first second : Made)
      (keys : (r q : Row) → Rows r q → (y : Component) → P y → first y r ≡ second y q)
      (others : (r q : Row) → Rows r q → (y : Component) → IsKnown known (source_named a y.name) → first y r ≡ second y q) where
    abbrev Q : Row → Row → Type 0
    Q = Agree known (columns_from s (of_left a s))

    split : (f : Component → Cell) → map f (columns_of s) ≡ map f (identifiers_of s) ++ map f (others_of s)
    split f = ap (map f) (columns_split s) ∙ map-append f (identifiers_of s) (others_of s)

    made_row : (r q : Row) → Rows r q → Q (point_of first (columns_of s) r) (point_of second (columns_of s) q)
    made_row r q g =
        let ys = identifiers_of s in
        let zs = others_of s in
        let f : Component → Cell = λ y. cell_or_null (first y r) in
        let h : Component → Cell = λ y. cell_or_null (second y q) in
        subst (λ z. Q z (map h (columns_of s))) (sym (split f)) (subst (λ z. Q (map f ys ++ map f zs) z) (sym (split h))
        (agree_joined known no_pairs ys (map (λ y. source_named a y.name) zs) (map f ys) (map h ys) (map f zs) (map h zs)
        (agree_map_all known P (λ y. no_pairs) f h ys (λ y x u. ap cell_or_null (keys r q g y x)) all)
        (agree_map known (λ y. source_named a y.name) f h zs (λ y x. ap cell_or_null (others r q g y x)))))

    made_agrees : (d t out other : List Row) → Together Rows d t → each_made first (columns_of s) d ≡ Ok out → each_made second (columns_of s) t ≡ Ok other → Together Q out other
    made_agrees d t out other agree k l =
        both_ok Q (faults_by (point_fault first (columns_of s)) d) (faults_by (point_fault second (columns_of s)) t) (map (point_of first (columns_of s)) d) out (map (point_of second (columns_of s)) t) other
        (together_map Rows Q (point_of first (columns_of s)) (point_of second (columns_of s)) made_row d t agree) k l

  -- ---- `timeshift`
  pub shift_agrees : (n : ℤ) (d t out other : List Row) → Together Rows d t → timeshift_of n (with_points a.structure d) ≡ Ok out → timeshift_of n (with_points a.structure t) ≡ Ok other → Agreeing known (columns_from a.structure (of_left a a.structure)) out other
  shift_agrees n d t out other agree k l =
      let made = shifted_value n xs in
      made_agrees a.structure (λ y. IsIdentifierOf a.structure y.name) (own_identifier_names a.structure) made made
      (λ r q g y x i. if is_time y then shifted_of (same_identifier known a r q g y.name x i) (Some n) else Ok (same_identifier known a r q g y.name x i))
      (λ r q g y x i. if is_time y then shifted_of (same_named known a r q g y.name x i) (Some n) else Ok (same_named known a r q g y.name x i)) d t out other agree k l

  -- ---- series
  module _ (timed : HasTime a.structure) where
    time_same : (r q : Row) → Rows r q → time_of a.structure r ≡ time_of a.structure q
    time_same r q g =
        let n = key_width a.structure in
        let place = time_place a.structure in
        let less : place < n = (time_at (λ y. c.Null) (identifiers_of a.structure) timed).1 in
        sym (front_cell place n r less) ∙ ap (column_of place) (same_key known a r q g) ∙ front_cell place n q less

    others_identify : AllByRecursion (λ y. IsIdentifierOf a.structure y.name) (other_identifiers a.structure)
    others_identify = AllByRecursion-filter (λ y. IsIdentifierOf a.structure y.name) (λ x. not (is_time x)) (identifiers_of a.structure) (own_identifier_names a.structure)

    others_same : (r q : Row) → Rows r q → values_in a.structure (other_identifiers a.structure) r ≡ values_in a.structure (other_identifiers a.structure) q
    others_same r q g = same_values known a r q g (other_identifiers a.structure) others_identify

    module _ (d t : List Row) (agree : Together Rows d t) where
      abbrev one : DataSet
      one = with_points a.structure d

      abbrev two : DataSet
      two = with_points a.structure t

      series_agree : (r q : Row) → Rows r q → Together Rows (series_of one r) (series_of two q)
      series_agree r q g =
          together_filter Rows (in_one_series a.structure r) (in_one_series a.structure q)
          (λ u v k i. same_row (others_same u v k i) (others_same r q g i) && same_cell (frequency_of (time_same u v k i)) (frequency_of (time_same r q g i))) d t agree

      up_to_agree : (r q : Row) → Rows r q → Together Rows (up_to one r) (up_to two q)
      up_to_agree r q g = together_filter Rows _ _ (λ u v k i. is_le (cell_cmp (time_same u v k i) (time_same r q g i))) (series_of one r) (series_of two q) (series_agree r q g)

      before_agree : (r q : Row) → Rows r q → Together Rows (before one r) (before two q)
      before_agree r q g = together_filter Rows _ _ (λ u v k i. is_lt (cell_cmp (time_same u v k i) (time_same r q g i))) (series_of one r) (series_of two q) (series_agree r q g)

      previous_agree : (r q : Row) → Rows r q → Both Rows (previous one r) (previous two q)
      previous_agree r q g =
          together_find Rows _ _ (λ u v k. together_all Rows _ _ (λ z y m i. is_le (cell_cmp (time_same z y m i) (time_same u v k i))) (before one r) (before two q) (before_agree r q g)) (before one r) (before two q) (before_agree r q g)

      -- ---- `flow_to_stock`, `stock_to_flow`
      module _ (y : Component) (h : IsKnown known (source_named a y.name)) (r q : Row) (g : Rows r q) where
        abbrev at : Row → Cell
        at z = value_named xs z y.name

        at_same : (u v : Row) → Rows u v → at u ≡ at v
        at_same u v k = same_named known a u v k y.name h

        stock_same : (p : Settings) → stock_value p one y r ≡ stock_value p two y q
        stock_same p =
            let values = same_map Rows at at at_same (up_to one r) (up_to two q) (up_to_agree r q g) in
            λ i. if is_null (at_same r q g i) then Ok c.Null else group_value p agg.Sum (values i)

        flow_same : (p : Settings) → flow_value p one y r ≡ flow_value p two y q
        flow_same p =
            let last = both_value Rows at at (c.Int (pos 0)) at_same (previous one r) (previous two q) (previous_agree r q g) in
            λ i. called p y.kind (Ok (at_same r q g i) ∷ Ok (last i) ∷ []) op.Subtract

      module _ (s : Structure) (w : IsFlowed a.structure s) (first second : Component → Row → Outcome Cell)
          (same : (y : Component) → IsKnown known (source_named a y.name) → (r q : Row) → Rows r q → first y r ≡ second y q) where
        abbrev IsFree : Component → Type 0
        IsFree y = IsIdentifierOf a.structure y.name × (is_measure y ≡ false)

        all_free : AllByRecursion IsFree (identifiers_of s)
        all_free =
            all_both (λ y. IsIdentifierOf a.structure y.name) (λ y. is_measure y ≡ false) IsFree (λ y x z. (x, z)) (identifiers_of s)
            (subst (AllByRecursion (λ y. IsIdentifierOf a.structure y.name)) (sym (identify a.structure s w.operand w.numbers w.shape)) (own_identifier_names a.structure)) (free a.structure s w.operand w.numbers w.shape)

        stays : (value : Component → Row → Outcome Cell) (y : Component) (r : Row) → is_measure y ≡ false → by_measure value a.structure y r ≡ Ok (value_named xs r y.name)
        stays value y r e = ap (λ b. if b then value y r else Ok (value_named xs r y.name)) e

        pub flowed_agree : (out other : List Row) → each_made (by_measure first a.structure) (columns_of s) d ≡ Ok out → each_made (by_measure second a.structure) (columns_of s) t ≡ Ok other → Agreeing known (columns_from s (of_left a s)) out other
        flowed_agree out other k l =
            made_agrees s IsFree all_free (by_measure first a.structure) (by_measure second a.structure)
            (λ r q g y x. stays first y r x.1 ∙ ap (λ (v : Cell). Ok v) (same_identifier known a r q g y.name x.0) ∙ sym (stays second y q x.1))
            (λ r q g y x i. if is_measure y then same y x r q g i else Ok (same_named known a r q g y.name x i)) d t out other agree k l

      -- ---- `fill_time_series`
      abbrev by : List ℕ
      by = places_in xs (other_identifiers a.structure)

      alike : Together (Alike (time_place a.structure) by) d t
      alike =
          together_more Rows (Alike (time_place a.structure) by)
          (λ r q g. (named_cells xs (other_identifiers a.structure) r ∙ others_same r q g ∙ sym (named_cells xs (other_identifiers a.structure) q), time_same r q g)) d t agree

      keys_same : (e : Extent) → filled_keys e one ≡ filled_keys e two
      keys_same e = ap (map (in_order a.structure)) (rows_same (time_place a.structure) by e d t alike)

-- one operand, in its own columns
left_is_joined : (a : Operand) → columns_from a.structure (of_join (a ∷ [])) ≡ columns_from a.structure (of_left a a.structure)
left_is_joined a =
    ap (λ l. map (λ x. no_pairs) (identifiers_of a.structure) ++ l)
    ((λ i. append-nil (measure_sources a) i ++ append-nil (attribute_sources a) i) ∙ sym (map-append (λ y. source_named a y.name) (measures_of a.structure) (of_role role.Attribute a.structure)))

module _ (known : Known) (x : Twin) (w : AreTwins known x) where
  abbrev s : Structure
  s = x.operand.structure

  fill_agrees : HasTime s → (e : Extent) → Agreeing known (columns_from s (of_left x.operand s)) (fill_of e (first_of x)) (fill_of e (second_of x))
  fill_agrees timed e =
      let ids = identifiers_of s in
      let K = Keys known s in
      let Q = Agree known (columns_from s (of_join (x.operand ∷ []))) in
      let one : Row → Row = λ k. tuple_point (tuple_at ids (first_of x ∷ []) k) in
      let two : Row → Row = λ k. tuple_point (tuple_at ids (second_of x ∷ []) k) in
      let keys = filled_keys e (first_of x) in
      subst (λ cols. Agreeing known cols (fill_of e (first_of x)) (fill_of e (second_of x))) (left_is_joined x.operand)
      (subst (λ ks. Together Q (map one keys) (map two ks)) (keys_same known x.operand timed x.first x.second w.agree e)
      (together_map K Q one two (key_tuple_agrees known s ids refl (x ∷ []) ((w, own_identifier_names s), tt)) keys keys
      (together_self K (in_order s) (in_order s) (λ r. (refl, length-map ids (λ y. value_named (series_columns s) r y.name))) (series_rows e (time_place s) (places_in (columns_of s) (other_identifiers s)) x.first))))

  pub timed_agrees : (p : Settings) (o : TimeOp) (r : Structure) → IsTimed o s r → (out other : List Row) → timed_of p o (first_of x) r ≡ Ok out → timed_of p o (second_of x) r ≡ Ok other → Agreeing known (columns_from r (of_left x.operand r)) out other
  timed_agrees p (times.Shift n) r i out other k l =
      subst (λ z. Agreeing known (columns_from z (of_left x.operand z)) out other) (sym i.given) (shift_agrees known x.operand n x.first x.second out other w.agree k l)
  timed_agrees p (times.Fill f) r i out other k l =
      subst (λ z. Agreeing known (columns_from z (of_left x.operand z)) out other) (sym i.given)
      (subst (λ z. Agreeing known (columns_from s (of_left x.operand s)) z other) (ok_is (fill_of (extent_of f) (first_of x)) out k)
      (subst (λ z. Agreeing known (columns_from s (of_left x.operand s)) (fill_of (extent_of f) (first_of x)) z) (ok_is (fill_of (extent_of f) (second_of x)) other l) (fill_agrees i.time (extent_of f))))
  timed_agrees p times.FlowToStock r i out other k l =
      flowed_agree known x.operand i.time x.first x.second w.agree r i.given (stock_value p (first_of x)) (stock_value p (second_of x))
      (λ y h u v g. stock_same known x.operand i.time x.first x.second w.agree y h u v g p) out other k l
  timed_agrees p times.StockToFlow r i out other k l =
      flowed_agree known x.operand i.time x.first x.second w.agree r i.given (flow_value p (first_of x)) (flow_value p (second_of x))
      (λ y h u v g. flow_same known x.operand i.time x.first x.second w.agree y h u v g p) out other k l
