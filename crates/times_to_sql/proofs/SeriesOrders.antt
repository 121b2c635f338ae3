-- The points of a series in the order of a window: which of them a frame up to a point holds, and which one stands before it.
use Rattle.std.proofs.Common.{◌≡◌, ℕ, Bool, true, false, not, ◌&&◌, ◌⊎◌, inl, inr, List, [], ◌∷◌, ◌++◌, length, map, refl, sym, ap, ◌∙◌, subst, true≢false, Option}
use Rattle.std.specs.Prelude.{find}
use Rattle.std.specs.List.{AllByRecursion, filter, list_all, list_any}
use Rattle.std.specs.Ordering.{is_le, is_lt, ordering_reverse, ordering_then}
use Rattle.std.specs.declared.cmp.Ordering.{Ordering}
use Rattle.std.specs.declared.cmp.Ordering.TheVariants.{Less, Equal, Greater}
use Rattle.std.proofs.lemmas.List.Sums.{length-filter}
use Rattle.std.proofs.lemmas.Bool.{and_parts}
use Rattle.vtl_lists.specs.Apart.{all_apart}
use Rattle.vtl_lists.specs.Perm.{Perm, chain}
use Rattle.vtl_lists.specs.Sorting.{IsOrder, Rises, le_by}
use Rattle.vtl_lists.proofs.Aparts.{all_apart-Perm, all_apart-filter, apart_parts, list_any-Perm}
use Rattle.vtl_lists.proofs.Perms.{AllByRecursion-Perm, Perm-filter, Perm-same}
use Rattle.vtl_lists.proofs.Sorts.{AllByRecursion-filter, Rises-sorted_by}
use Rattle.vtl_lists.proofs.Alls.{all_back, all_both, all_filtered, all_front, all_kept}
use Rattle.vtl_lists.proofs.Filters.{filter_all}
use Rattle.vtl_cell.specs.Order.{cell_cmp, same_cell}
use Rattle.vtl_cell.specs.Row.{Row, column_of, row_cmp, same_key, same_row}
use Rattle.vtl_cell.specs.ScalarPeriods.{frequency_of}
use Rattle.vtl_cell.specs.Sorted.{Key, by_keys, rising, window_cmp}
use Rattle.vtl_cell.specs.declared.cell.Cell.{Cell}
use Rattle.vtl_cell.specs.declared.cell.Cell.TheVariants as c
use Rattle.vtl_cell.proofs.Cells.{same_cell-is, same_cell-refl}
use Rattle.vtl_cell.proofs.Keys.{window_order}
use Rattle.vtl_cell.proofs.Orders.{cell_cmp-ties, cell_cmp_total}
use Rattle.vtl_cell.proofs.Rows.{same_key-sym, same_row-is, same_row-refl, is_Less}
use Rattle.vtl_rows.specs.Tables.{cells_at}
use Rattle.vtl_time.specs.Periods.{letter_of}
use Rattle.vtl_time.specs.declared.periods.Frequency.{Frequency}
use Rattle.vtl_tree.specs.Columns.{identifiers_of, place_of}
use Rattle.vtl_tree.specs.DataSet.{IsDataSet, is_point}
use Rattle.vtl_tree.specs.Environment.{DataSet}
use Rattle.vtl_tree.specs.Structure.{IsStructure, columns_of, key_width, names_of}
use Rattle.vtl_tree.specs.declared.calls.Window.{Window}
use Rattle.vtl_tree.specs.declared.structure.Component.{Component}
use Rattle.vtl_tree.specs.declared.structure.Structure.{Structure}
use Rattle.vtl_meaning.specs.Agreement.{values_in}
use Rattle.vtl_meaning.specs.Groups.{places_named}
use Rattle.vtl_meaning.specs.LookUps.{value_named, values_named}
use Rattle.vtl_meaning.specs.Points.{with_points}
use Rattle.vtl_meaning.specs.Windows.{Stand, identifier_places, key_in, keys_in, partition_of, point_cmp, stand_of}
use Rattle.vtl_meaning.proofs.Partitions.{count_by-Perm, ordered_perm}
use Rattle.groups_to_sql.proofs.WindowOrders.{own_tie}
use Rattle.vtl_timing.specs.Times.{HasTime, before, in_one_series, is_time, other_identifiers, previous, series_of, time_of, time_place, up_to}
use Rattle.vtl_timing.proofs.FlowOrders.{keys_same, own_time, previous_same, time_at}
use Rattle.vtl_timing.proofs.SeriesColumns.{IsOnly, time_only}
use Rattle.times_to_sql.specs.Frequencies.{is_of_frequency, part_of, series_window, time_key}
use Rattle.times_to_sql.proofs.SeriesLists.{Cut, cut_at, filter_before, filter_front, filter_twice, find_last, front_rises, item_has, last_of, passes_too, sides}

-- ---- truth and orders
and_turned : (a b : Bool) → (a && b) ≡ (b && a)
and_turned true true = refl
and_turned true false = refl
and_turned false true = refl
and_turned false false = refl

and_self : (b : Bool) → (b && b) ≡ b
and_self true = refl
and_self false = refl

-- ---- times
abbrev pub earlier : Structure → Row → Row → Bool
earlier a q r = is_lt (cell_cmp (time_of a q) (time_of a r))

abbrev pub no_later : Structure → Row → Row → Bool
no_later a q r = is_le (cell_cmp (time_of a q) (time_of a r))

abbrev pub InSeries : Structure → Row → Row → Type 0
InSeries a r q = (is_point (columns_of a) q ≡ true) × (in_one_series a r q ≡ true)

-- the points of a series in the order of their times, and a place among them
pub record Standing (a : Structure) (us : List Row) (r : Row) (rows : List Row) (place : ℕ) : Type 0 where
  pub cut : Cut rows r
  pub place_is : place ≡ length cut.front
  pub series : Perm (series_of (with_points a us) r) rows
  pub rises : Rises (earlier a) rows
  pub within : AllByRecursion (InSeries a r) rows

module _ (a : Structure) where
  at_once : (q : Row) → cell_cmp (time_of a q) (time_of a q) ≡ Equal
  at_once q = own_tie (cell_cmp (time_of a q) (time_of a q)) (cell_cmp_total.antisymm (time_of a q) (time_of a q))

  turned : (q r : Row) → earlier a r q ≡ true → cell_cmp (time_of a q) (time_of a r) ≡ Greater
  turned q r e = cell_cmp_total.antisymm (time_of a q) (time_of a r) ∙ ap ordering_reverse (is_Less (cell_cmp (time_of a r) (time_of a q)) e)

  lax : (q r : Row) → earlier a q r ≡ true → no_later a q r ≡ true
  lax q r e = ap is_le (is_Less (cell_cmp (time_of a q) (time_of a r)) e)

  stricter : (q r : Row) → earlier a q r ≡ true → no_later a r q ≡ false
  stricter q r e = ap is_le (turned r q e)

  not_before : (q r : Row) → earlier a q r ≡ true → earlier a r q ≡ false
  not_before q r e = ap is_lt (turned r q e)

  itself : (q : Row) → no_later a q q ≡ true
  itself q = ap is_le (at_once q)

  -- ---- one series
  pub self_series : (r : Row) → in_one_series a r r ≡ true
  self_series r = λ i. same_row-refl (values_in a (other_identifiers a) r) i && same_cell-refl (frequency_of (time_of a r)) i

  pub one_series : (r q : Row) → in_one_series a r q ≡ true → in_one_series a q ≡ in_one_series a r
  one_series r q e =
      let vals = λ (z : Row). values_in a (other_identifiers a) z in
      let parts = and_parts (same_row (vals q) (vals r)) (same_cell (frequency_of (time_of a q)) (frequency_of (time_of a r))) e in
      let values = same_row-is (vals q) (vals r) parts.0 in
      let letters = same_cell-is (frequency_of (time_of a q)) (frequency_of (time_of a r)) parts.1 in
      λ i z. same_row (vals z) (values i) && same_cell (frequency_of (time_of a z)) (letters i)

  pub series_same : (us : List Row) (r q : Row) → in_one_series a r q ≡ true → series_of (with_points a us) q ≡ series_of (with_points a us) r
  series_same us r q e = ap (λ g. filter g us) (one_series r q e)

  -- those up to a point of a series, which stand before it in the order of times
  pub up_to_at : (us rows : List Row) (r x : Row) (front back : List Row) → Perm (series_of (with_points a us) r) rows → Rises (earlier a) rows → in_one_series a r x ≡ true → rows ≡ front ++ x ∷ back → Perm (up_to (with_points a us) x) (front ++ x ∷ [])
  up_to_at us rows r x front back series rises e is =
      let p : Row → Bool = λ q. no_later a q x in
      let both = sides (earlier a) front x back (subst (Rises (earlier a)) is rises) in
      chain (Perm-same (up_to (with_points a us) x) (filter p (series_of (with_points a us) r)) (ap (filter p) (series_same us r x e)))
      (chain (Perm-filter p series)
      (Perm-same (filter p rows) (front ++ x ∷ []) (ap (filter p) is ∙ filter_front p front x back (more (λ q. lax q x) front both.0) (itself x) (more (λ q. stricter x q) back both.1))))
    where
      more : {P Q : Row → Type 0} → ((q : Row) → P q → Q q) → (ls : List Row) → AllByRecursion P ls → AllByRecursion Q ls
      more f [] all = tt
      more f (q ∷ ls) all = (f q all.0, more f ls all.1)

  module _ (us : List Row) (h : IsDataSet a us) where
    abbrev d : DataSet
    d = with_points a us

    pub some_set : (p : Row → Bool) → IsDataSet a (filter p us)
    some_set p = record {
      well_formed = h.well_formed;
      typed = AllByRecursion-filter (λ q. is_point (columns_of a) q ≡ true) p us h.typed;
      distinct = all_apart-filter (same_key (key_width a)) p us h.distinct;
    }

    pub up_to_is : (r : Row) (rows : List Row) (place : ℕ) (s : Standing a us r rows place) → Perm (up_to d r) (s.cut.front ++ r ∷ [])
    up_to_is r rows place s = up_to_at us rows r r s.cut.front s.cut.back s.series s.rises (self_series r) s.cut.is

    -- the previous point is the last one before
    pub previous_is : HasTime a → (r : Row) (rows : List Row) (place : ℕ) (s : Standing a us r rows place) → previous d r ≡ last_of s.cut.front
    previous_is time r rows place s =
        ap found (ap (filter (λ q. earlier a q r)) (sym twice))
        ∙ previous_same a h.well_formed time (series_of d r) rows (some_set (in_one_series a r)) s.series r
        ∙ ap found in_front
        ∙ find_last (earlier a) (no_later a) itself lax stricter front (front_rises (earlier a) front (r ∷ back) ordered)
      where
        found : List Row → Option Row
        found rows = find (λ q. list_all (λ z. no_later a z q) rows) rows

        front : List Row
        front = s.cut.front

        back : List Row
        back = s.cut.back

        ordered : Rises (earlier a) (front ++ r ∷ back)
        ordered = subst (Rises (earlier a)) s.cut.is s.rises

        twice : filter (in_one_series a r) (series_of (with_points a us) r) ≡ series_of (with_points a us) r
        twice = filter_twice (in_one_series a r) (in_one_series a r) (in_one_series a r) (λ q. and_self (in_one_series a r q)) us

        more : {P Q : Row → Type 0} → ((q : Row) → P q → Q q) → (ls : List Row) → AllByRecursion P ls → AllByRecursion Q ls
        more f [] all = tt
        more f (q ∷ ls) all = (f q all.0, more f ls all.1)

        in_front : before (with_points a rows) r ≡ front
        in_front =
            let p : Row → Bool = λ q. earlier a q r in
            let both = sides (earlier a) front r back ordered in
            ap (filter p) (filter_all (in_one_series a r) rows (more (λ q i. i.1) rows s.within))
            ∙ ap (filter p) s.cut.is
            ∙ filter_before p front r back both.0 (ap is_lt (at_once r)) (more (λ q. not_before r q) back both.1)

-- ---- the order of the window
module _ (a : Structure) (well : IsStructure a) (time : HasTime a) where
  abbrev xs : List Component
  xs = columns_of a

  abbrev w : Window
  w = series_window a

  abbrev the_time : IsOnly is_time (identifiers_of a)
  the_time = time_only a time

  abbrev IsRow : Row → Type 0
  IsRow r = is_point xs r ≡ true

  pub order_is : w.order ≡ time_key the_time.item ∷ []
  order_is = ap (map time_key) the_time.only

  pub time_column : (r : Row) → IsRow r → column_of (place_of the_time.item.name xs) r ≡ time_of a r
  time_column r h =
      let at : Component → Cell = λ y. value_named xs r y.name in
      let P : Component → Type 0 = λ y. is_time y ≡ true → at y ≡ column_of (time_place a) (map at (identifiers_of a)) in
      let found = subst (AllByRecursion P) the_time.only (AllByRecursion-filter P is_time (identifiers_of a) (time_at at (identifiers_of a) time).0) in
      let is = subst (AllByRecursion (λ y. is_time y ≡ true)) the_time.only (all_filtered is_time (identifiers_of a)) in
      found.0 is.0 ∙ own_time a well time r h

  abbrev key : Key
  key = record { place = place_of the_time.item.name xs; falling = false }

  abbrev cmp : Row → Row → Ordering
  cmp = point_cmp a w

  cmp_is : cmp ≡ window_cmp (key ∷ []) (identifier_places a)
  cmp_is = ap (λ o. window_cmp (map (key_in xs) o) (identifier_places a)) order_is

  -- by the time first
  abbrev behind : Row → Row → Ordering → Ordering
  behind q r o = ordering_then (ordering_then o (by_keys (map rising (identifier_places a)) q r)) (row_cmp q r)

  by_time : (q r : Row) → IsRow q → IsRow r → cmp q r ≡ behind q r (cell_cmp (time_of a q) (time_of a r))
  by_time q r h i = ap (λ f. f q r) cmp_is ∙ (λ j. behind q r (cell_cmp (time_column q h j) (time_column r i j)))

  stands_before : (q r : Row) → IsRow q → IsRow r → earlier a q r ≡ true → is_lt (cmp q r) ≡ true
  stands_before q r h i e = ap is_lt (by_time q r h i ∙ ap (behind q r) (is_Less (cell_cmp (time_of a q) (time_of a r)) e))

  stands_behind : (q r : Row) → IsRow q → IsRow r → earlier a r q ≡ true → is_lt (cmp q r) ≡ false
  stands_behind q r h i e = ap is_lt (by_time q r h i ∙ ap (behind q r) (turned a q r e))

  order : IsOrder (le_by cmp)
  order = window_order (keys_in xs w) (identifier_places a)

  not_itself : (r : Row) → is_lt (cmp r r) ≡ false
  not_itself r = go (is_lt (cmp r r)) refl (order.total r r)
    where
      go : (b : Bool) → is_lt (point_cmp a (series_window a) r r) ≡ b → (le_by (point_cmp a (series_window a)) r r ≡ true) ⊎ (le_by (point_cmp a (series_window a)) r r ≡ true) → b ≡ false
      go true e (inl t) = absurd (true≢false (sym t ∙ ap not e))
      go true e (inr t) = absurd (true≢false (sym t ∙ ap not e))
      go false e t = refl

  -- in order, the times rise: two points of a series at one time are the same
  strict : (r q z : Row) → InSeries a r q → InSeries a r z → le_by cmp q z ≡ true → same_key (key_width a) q z ≡ false → earlier a q z ≡ true
  strict r q z i j l apart = go (cell_cmp (time_of a q) (time_of a z)) refl
    where
      go : (o : Ordering) → cell_cmp (time_of a q) (time_of a z) ≡ o → is_lt o ≡ true
      go Less e = refl
      go Equal e = absurd (true≢false (sym (keys_same a well time r q z i.0 j.0 i.1 j.1 (cell_cmp-ties (time_of a q) (time_of a z) e)) ∙ apart))
      go Greater e =
          let less : cell_cmp (time_of a z) (time_of a q) ≡ Less = cell_cmp_total.antisymm (time_of a z) (time_of a q) ∙ ap ordering_reverse e in
          absurd (true≢false (sym l ∙ ap not (stands_before z q j.0 i.0 (ap is_lt less))))

  rises_by_time : (r : Row) (rows : List Row) → AllByRecursion (InSeries a r) rows → Rises (le_by cmp) rows → all_apart (same_key (key_width a)) rows ≡ true → Rises (earlier a) rows
  rises_by_time r [] all rises apart = tt
  rises_by_time r (q ∷ rows) all rises apart =
      let parts = apart_parts (same_key (key_width a)) q rows apart in
      (later rows all.1 rises.0 parts.0, rises_by_time r rows all.1 rises.1 parts.1)
    where
      later : (ls : List Row) → AllByRecursion (InSeries a r) ls → AllByRecursion (λ z. le_by (point_cmp a (series_window a)) q z ≡ true) ls → AllByRecursion (λ z. same_key (key_width a) q z ≡ false) ls → AllByRecursion (λ z. earlier a q z ≡ true) ls
      later [] i l k = tt
      later (z ∷ ls) i l k = (strict r q z all.0 i.0 l.0 k.0, later ls i.1 l.1 k.1)

  cells_named : (ys : List Component) (q : Row) → cells_at (places_named (names_of ys) xs) q ≡ values_named xs ys q
  cells_named [] q = refl
  cells_named (y ∷ ys) q = ap (λ l. value_named xs q y.name ∷ l) (cells_named ys q)

  -- a partition of the points of one frequency is a series
  pub partition_is : (us : List Row) (f : Frequency) (r : Row) → is_of_frequency a f r ≡ true → partition_of (part_of f (with_points a us)) w r ≡ series_of (with_points a us) r
  partition_is us f r e = filter_twice (λ q. same_row (cells_at places q) (cells_at places r)) (is_of_frequency a f) (in_one_series a r) same us
    where
      places : List ℕ
      places = places_named (names_of (other_identifiers a)) (columns_of a)

      letter : frequency_of (time_of a r) ≡ c.Text (letter_of f ∷ [])
      letter = same_cell-is (frequency_of (time_of a r)) (c.Text (letter_of f ∷ [])) e

      same : (q : Row) → (is_of_frequency a f q && same_row (cells_at places q) (cells_at places r)) ≡ in_one_series a r q
      same q =
          and_turned (is_of_frequency a f q) (same_row (cells_at places q) (cells_at places r))
          ∙ (λ i. same_row (cells_named (other_identifiers a) q i) (cells_named (other_identifiers a) r i) && same_cell (frequency_of (time_of a q)) (sym letter i))

  module _ (us : List Row) (h : IsDataSet a us) (f : Frequency) (r : Row) (e : is_of_frequency a f r ≡ true) (m : list_any (same_row r) us ≡ true) where
    abbrev part : DataSet
    part = part_of f (with_points a us)

    abbrev s : Stand
    s = stand_of part w r

    there : IsRow r
    there = item_has IsRow us r m h.typed

    series : Perm (series_of (with_points a us) r) s.ordered
    series = subst (λ z. Perm z s.ordered) (partition_is us f r e) (ordered_perm part w r)

    within : AllByRecursion (InSeries a r) s.ordered
    within = AllByRecursion-Perm (InSeries a r) series (all_kept IsRow (in_one_series a r) us h.typed)

    rises : Rises (earlier a) s.ordered
    rises =
        rises_by_time r s.ordered within (Rises-sorted_by order (partition_of part w r))
        (sym (all_apart-Perm (same_key (key_width a)) (same_key-sym (key_width a)) series) ∙ all_apart-filter (same_key (key_width a)) (in_one_series a r) us h.distinct)

    cut : Cut s.ordered r
    cut = cut_at r s.ordered (sym (list_any-Perm (same_row r) series) ∙ passes_too (in_one_series a r) r us (self_series a r) m)

    place_is : s.place ≡ length cut.front
    place_is =
        let t : Row → Bool = λ q. is_lt (cmp q r) in
        let both = sides (earlier a) cut.front r cut.back (subst (Rises (earlier a)) cut.is rises) in
        let whole = subst (AllByRecursion (InSeries a r)) cut.is within in
        let early = all_both (InSeries a r) (λ q. earlier a q r ≡ true) (λ q. t q ≡ true) (λ q i k. stands_before q r i.0 there k) cut.front (all_front (InSeries a r) cut.front (r ∷ cut.back) whole) both.0 in
        let late = all_both (InSeries a r) (λ q. earlier a r q ≡ true) (λ q. t q ≡ false) (λ q i k. stands_behind q r i.0 there k) cut.back (all_back (InSeries a r) cut.front (r ∷ cut.back) whole).1 both.1 in
        count_by-Perm t (ordered_perm part w r)
        ∙ sym (length-filter t s.ordered)
        ∙ ap (λ l. length (filter t l)) cut.is
        ∙ ap length (filter_before t cut.front r cut.back early (not_itself r) late)

    pub stands : Standing a us r s.ordered s.place
    stands = record { cut = cut; place_is = place_is; series = series; rises = rises; within = within }
