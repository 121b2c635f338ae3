-- Calls over windows: a point has the same stand where partition and order are known.
use Rattle.lineage_laws.proofs.Columns.{IsIdentifierOf, agree_joined, both_ok, own_identifier_names}
use Rattle.lineage_laws.proofs.Rows.{agree_map, agree_map_all, known_all, same_at, same_identifier, same_named}
use Rattle.lineage_laws.proofs.Sorts.{Compared, later, nothing, sorted_together}
use Rattle.lineage_laws.proofs.Togethers.{same_count, same_map, together_filter, together_left, together_map, together_more, together_with}
use Rattle.lineage_laws.proofs.Values.{value_same}
use Rattle.lineage_laws.specs.Agree.{Agree, Agreeing, IsKnown, Known, Together, and, none}
use Rattle.std.proofs.Common.{◌≡◌, ℕ, ◌+◌, Bool, true, false, not, cond, List, [], ◌∷◌, ◌++◌, map, take, pos, Ok, Option, None, Some, refl, sym, ap, ◌∙◌, subst, true≢false}
use Rattle.std.proofs.lemmas.List.{map-append}
use Rattle.std.specs.List.{AllByRecursion}
use Rattle.std.specs.Option.{option_map_or}
use Rattle.std.specs.Ordering.{flip_args, is_lt, on, ordering_reverse, ordering_then}
use Rattle.std.specs.declared.cmp.Ordering.{Ordering}
use Rattle.std.specs.declared.cmp.Ordering.TheVariants.{Less, Equal, Greater}
use Rattle.vtl_cell.proofs.Orders.{cell_cmp-ties, then_ties}
use Rattle.vtl_cell.proofs.Rows.{row_cmp_total, same_row-refl}
use Rattle.vtl_cell.specs.Conversion.{as_kind}
use Rattle.vtl_cell.specs.Frames.{first_cell, lag_of, last_cell, lead_of}
use Rattle.vtl_cell.specs.Groups.{group_value, ratio_of}
use Rattle.vtl_cell.specs.Order.{cell_cmp}
use Rattle.vtl_cell.specs.Outcome.{after, faults_by}
use Rattle.vtl_cell.specs.Row.{Row, column_of, row_cmp, same_key, same_row}
use Rattle.vtl_cell.specs.ScalarArithmetic.{integer}
use Rattle.vtl_cell.specs.Sorted.{Key, by_keys, key_cmp, rising, row_rank}
use Rattle.vtl_cell.specs.declared.cell.Cell.{Cell}
use Rattle.vtl_cell.specs.declared.kind.Kind.{Kind}
use Rattle.vtl_cell.specs.declared.operator.AggKind.TheVariants as agg
use Rattle.vtl_decimal.specs.Range.{fit_integer}
use Rattle.vtl_decimal.specs.Settings.{Settings}
use Rattle.vtl_lists.proofs.Aparts.{all_apart-filter, apart_parts}
use Rattle.vtl_lists.specs.Apart.{all_apart}
use Rattle.vtl_lists.specs.Sorting.{le_by}
use Rattle.vtl_lists.proofs.Alls.{all_both, all_more}
use Rattle.vtl_meaning.proofs.Places.{columns_split, key_cells, key_within}
use Rattle.vtl_meaning.specs.Aggregates as groups
use Rattle.vtl_meaning.specs.AnalyticShapes.{IsAnalyzed}
use Rattle.vtl_meaning.specs.Analytics.{analytic_of, made_of, tree_value, value_for}
use Rattle.vtl_meaning.specs.Analytics as points
use Rattle.vtl_meaning.specs.Groups.{places_named}
use Rattle.vtl_meaning.specs.Points.{cell_or_null, with_points}
use Rattle.vtl_meaning.specs.Windows.{argument, framed, identifier_places, key_in, keys_in, op_value, partition_of, point_cmp, seen, stand_of}
use Rattle.vtl_rows.specs.Tables.{cells_at}
use Rattle.vtl_tree.specs.Columns.{identifiers_of, others_of, place_of}
use Rattle.vtl_tree.specs.DataSet.{IsDataSet, is_point}
use Rattle.vtl_tree.specs.Environment.{DataSet}
use Rattle.vtl_tree.specs.Structure.{columns_of, key_width}
use Rattle.vtl_tree.specs.Trees.{AnalyticTree, ValueTree}
use Rattle.vtl_tree.specs.Trees as nodes
use Rattle.vtl_tree.specs.declared.calls.AnalyticOp.{AnalyticOp}
use Rattle.vtl_tree.specs.declared.calls.AnalyticOp.TheVariants as op
use Rattle.vtl_tree.specs.declared.calls.OrderKey.{OrderKey}
use Rattle.vtl_tree.specs.declared.calls.Window.{Window}
use Rattle.vtl_tree.specs.declared.structure.Component.{Component}
use Rattle.vtl_tree.specs.declared.structure.Structure.{Structure}
use Rattle.vtl_sources.specs.Links.{Pairs}
use Rattle.lineage_laws.specs.Over.{Operand, columns_from, no_pairs, of_made, source_if_named, source_made, source_named, source_of_value, with_names, with_window}

-- ---- orders by keys
-- the same cells at the keys in both runs
abbrev SameKeys : List Key → (r q : Row) → Type 0
SameKeys keys r q = AllByRecursion (λ k. column_of k.place r ≡ column_of k.place q) keys

by_keys_same : (keys : List Key) (r q u v : Row) → SameKeys keys r q → SameKeys keys u v → by_keys keys r u ≡ by_keys keys q v
by_keys_same [] r q u v h k = refl
by_keys_same (x ∷ keys) r q u v h k = λ i. ordering_then (one x.falling i) (by_keys_same keys r q u v h.1 k.1 i)
  where
    one : (b : Bool) → cond b (flip_args (on (column_of x.place) cell_cmp)) (on (column_of x.place) cell_cmp) r u ≡ cond b (flip_args (on (column_of x.place) cell_cmp)) (on (column_of x.place) cell_cmp) q v
    one true = λ i. cell_cmp (k.0 i) (h.0 i)
    one false = λ i. cell_cmp (h.0 i) (k.0 i)

ties_at : (keys : List Key) (places : List ℕ) (r q : Row) → by_keys (keys ++ map rising places) r q ≡ Equal → cells_at places r ≡ cells_at places q
ties_at (x ∷ keys) places r q e = ties_at keys places r q (then_ties (key_cmp x r q) (by_keys (keys ++ map rising places) r q) e).1
ties_at [] [] r q e = refl
ties_at [] (i ∷ places) r q e =
    let parts = then_ties (key_cmp (rising i) r q) (by_keys (map rising places) r q) e in
    λ j. cell_cmp-ties (column_of i r) (column_of i q) parts.0 j ∷ ties_at [] places r q parts.1 j

own_tie : (o : Ordering) → o ≡ ordering_reverse o → o ≡ Equal
own_tie Equal e = refl
own_tie Less e = cc
own_tie Greater e = cc

-- whole rows decide nothing, where rows that tie before are the same
rows_decide_nothing : (o : Ordering) (r q : Row) → (o ≡ Equal → r ≡ q) → is_lt (ordering_then o (row_cmp r q)) ≡ is_lt o
rows_decide_nothing Less r q h = refl
rows_decide_nothing Greater r q h = refl
rows_decide_nothing Equal r q h = ap is_lt (ap (row_cmp r) (sym (h refl)) ∙ own_tie (row_cmp r r) (row_cmp_total.antisymm r r))

-- ---- points with one key are one point
abbrev Alone : ℕ → Row → Row → Type 0
Alone n r z = take n z ≡ take n r → z ≡ r

module _ (n : ℕ) where
  apart_alone : (r z : Row) → same_key n r z ≡ false → take n z ≡ take n r → z ≡ r
  apart_alone r z h e = absurd (true≢false (sym (ap (same_row (take n r)) e ∙ same_row-refl (take n r)) ∙ h))

  pub alone_in : (xs : List Row) → all_apart (same_key n) xs ≡ true → AllByRecursion (λ r. AllByRecursion (Alone n r) xs) xs
  alone_in [] e = tt
  alone_in (x ∷ xs) e =
      let parts = apart_parts (same_key n) x xs e in
      let other : (r : Row) → same_key n x r ≡ false → Alone n r x = λ r h k. absurd (true≢false (sym (ap (same_row (take n x)) (sym k) ∙ same_row-refl (take n x)) ∙ h)) in (
        ((λ k. refl), all_more (λ z. same_key n x z ≡ false) (Alone n x) (apart_alone x) xs parts.0),
        all_both (λ r. same_key n x r ≡ false) (λ r. AllByRecursion (Alone n r) xs) (λ r. AllByRecursion (Alone n r) (x ∷ xs)) (λ r h k. (other r h, k)) xs parts.0 (alone_in xs parts.1),
      )

-- ---- the stand of a point
module _ (known : Known) (p : Settings) (a : Operand) where
  abbrev Rows : Row → Row → Type 0
  Rows = Agree known (columns_from a.structure a.sources)

  abbrev xs : List Component
  xs = columns_of a.structure

  keys_known : (keys : List OrderKey) → AllByRecursion (IsKnown known) (map (source_named a) (map (λ key. key.component) keys)) → (r q : Row) → Rows r q → SameKeys (map (key_in xs) keys) r q
  keys_known [] h r q g = tt
  keys_known (k ∷ keys) h r q g = (same_named known a r q g k.component h.0, keys_known keys h.1 r q g)

  ids_known : (ys : List Component) → AllByRecursion (λ y. IsIdentifierOf a.structure y.name) ys → (r q : Row) → Rows r q → SameKeys (map rising (map (λ y. place_of y.name xs) ys)) r q
  ids_known [] all r q g = tt
  ids_known (y ∷ ys) all r q g = (same_identifier known a r q g y.name all.0, ids_known ys all.1 r q g)

  both_keys : (ks js : List Key) (r q : Row) → SameKeys ks r q → SameKeys js r q → SameKeys (ks ++ js) r q
  both_keys [] js r q h k = k
  both_keys (x ∷ ks) js r q h k = (h.0, both_keys ks js r q h.1 k)

  cells_known : (names : List (List ℕ)) → AllByRecursion (IsKnown known) (map (source_named a) names) → (r q : Row) → Rows r q → cells_at (places_named names xs) r ≡ cells_at (places_named names xs) q
  cells_known [] h r q g = refl
  cells_known (n ∷ ns) h r q g = λ i. same_named known a r q g n h.0 i ∷ cells_known ns h.1 r q g i

  -- what stood before a window is known, and each component of its partition and of its order
  window_known : (before : Pairs) (w : Window) → IsKnown known (with_window a before w)
      → IsKnown known before × AllByRecursion (IsKnown known) (map (source_named a) w.partition) × AllByRecursion (IsKnown known) (map (source_named a) (map (λ key. key.component) w.order))
  window_known before w h =
      let late = known_all known (with_names a before w.partition) (map (source_named a) (map (λ key. key.component) w.order)) h in
      let early = known_all known before (map (source_named a) w.partition) late.0 in
      (early.0, early.1, late.1)

  module _ (before : Pairs) (w : Window) (h : IsKnown known (with_window a before w)) (d t : List Row) (agree : Together Rows d t) (dd : IsDataSet a.structure d) (tt : IsDataSet a.structure t) where
    abbrev n : ℕ
    n = key_width a.structure

    abbrev ids : List ℕ
    ids = identifier_places a.structure

    abbrev keys : List Key
    keys = keys_in xs w

    abbrev all_keys : List Key
    all_keys = keys ++ map rising ids

    parts : AllByRecursion (IsKnown known) (map (source_named a) w.partition) × AllByRecursion (IsKnown known) (map (source_named a) (map (λ key. key.component) w.order))
    parts = let known_parts = window_known before w h in (known_parts.1, known_parts.2)

    all_known : (r q : Row) → Rows r q → SameKeys all_keys r q
    all_known r q g = both_keys keys (map rising ids) r q (keys_known w.order parts.1 r q g) (ids_known (identifiers_of a.structure) (own_identifier_names a.structure) r q g)

    -- two points that tie in all keys have the same identifiers
    tie_key : (r q : Row) → is_point xs r ≡ true → is_point xs q ≡ true → by_keys all_keys r q ≡ Equal → take n r ≡ take n q
    tie_key r q i j e =
        sym (key_cells a.structure a.structure r dd.well_formed (refl, refl) (key_within a.structure r i)) ∙ ties_at keys ids r q e ∙ key_cells a.structure a.structure q dd.well_formed (refl, refl) (key_within a.structure q j)

    -- two points of each run compare alike
    compare_same : (r q u v : Row) → Rows r q → Rows u v → is_point xs r ≡ true → is_point xs q ≡ true → is_point xs u ≡ true → is_point xs v ≡ true → Alone n u r → Alone n v q → is_lt (point_cmp a.structure w r u) ≡ is_lt (point_cmp a.structure w q v)
    compare_same r q u v g k ir iq iu iv x y =
        rows_decide_nothing (by_keys all_keys r u) r u (λ e. x (tie_key r u ir iu e))
        ∙ ap is_lt (by_keys_same all_keys r q u v (all_known r q g) (all_known u v k))
        ∙ sym (rows_decide_nothing (by_keys all_keys q v) q v (λ e. y (tie_key q v iq iv e)))

    abbrev Told : Row → Row → Type 0
    Told r q = Rows r q × (is_point xs r ≡ true) × (is_point xs q ≡ true)

    -- of points that stand apart each compares with all later ones alike
    compared : (us vs : List Row) → Together Told us vs → all_apart (same_key n) us ≡ true → all_apart (same_key n) vs ≡ true → Compared (le_by (point_cmp a.structure w)) (le_by (point_cmp a.structure w)) us vs
    compared _ _ none e f = nothing
    compared _ _ (and {x = u} {y = v} {xs = us} {ys = vs} g rest) e f =
        let one = apart_parts (same_key n) u us e in
        let two = apart_parts (same_key n) v vs f in
        later (together_left Told (λ z. same_key n u z ≡ false) (λ z. same_key n v z ≡ false) (λ r q. not (is_lt (point_cmp a.structure w r u)) ≡ not (is_lt (point_cmp a.structure w q v)))
        (λ r q k x y. ap not (compare_same r q u v k.0 g.0 k.1 k.2 g.1 g.2 (apart_alone n u r x) (apart_alone n v q y))) us vs rest one.0 two.0)
        (compared us vs rest one.1 two.1)

    module _ (r q : Row) (g : Told r q) (ar : AllByRecursion (Alone n r) d) (aq : AllByRecursion (Alone n q) t) where
      abbrev one : DataSet
      one = with_points a.structure d

      abbrev two : DataSet
      two = with_points a.structure t

      abbrev places : List ℕ
      places = places_named w.partition xs

      abbrev Near : Row → Row → Type 0
      Near z y = Told z y × Alone n r z × Alone n q y

      told : Together Told d t
      told = together_with Rows (λ z. is_point xs z ≡ true) (λ z. is_point xs z ≡ true) d t agree dd.typed tt.typed

      near : Together Near (partition_of one w r) (partition_of two w q)
      near =
          together_filter Near (λ z. same_row (cells_at places z) (cells_at places r)) (λ z. same_row (cells_at places z) (cells_at places q))
          (λ z y m i. same_row (cells_known w.partition parts.0 z y m.0.0 i) (cells_known w.partition parts.0 r q g.0 i)) d t
          (together_left Told (Alone n r) (Alone n q) Near (λ z y m x v. (m, x, v)) d t told ar aq)

      place_same : (stand_of one w r).place ≡ (stand_of two w q).place
      place_same = same_count Near (λ z. is_lt (point_cmp a.structure w z r)) (λ z. is_lt (point_cmp a.structure w z q)) (λ z y m. compare_same z y r q m.0.0 g.0 m.0.1 m.0.2 g.1 g.2 m.1 m.2) (partition_of one w r) (partition_of two w q) near

      ordered_agree : Together Told (stand_of one w r).ordered (stand_of two w q).ordered
      ordered_agree =
          let le = le_by (point_cmp a.structure w) in
          let members = together_more Near Told (λ z y m. m.0) (partition_of one w r) (partition_of two w q) near in
          sorted_together le le Told (partition_of one w r) (partition_of two w q) members
          (compared (partition_of one w r) (partition_of two w q) members
          (all_apart-filter (same_key n) (λ z. same_row (cells_at places z) (cells_at places r)) d dd.distinct) (all_apart-filter (same_key n) (λ z. same_row (cells_at places z) (cells_at places q)) t tt.distinct))

      rank_same : row_rank p keys r (stand_of one w r).ordered ≡ row_rank p keys q (stand_of two w q).ordered
      rank_same = ap (λ (m : ℕ). integer (fit_integer p.scale (pos (m + 1))))
          (same_count Told (λ z. is_lt (by_keys keys z r)) (λ z. is_lt (by_keys keys z q)) (λ z y m. ap is_lt (by_keys_same keys z y r q (keys_known w.order parts.1 z y m.0) (keys_known w.order parts.1 r q g.0))) (stand_of one w r).ordered (stand_of two w q).ordered ordered_agree)

      pub op_same : (o : AnalyticOp) (at : Row → Cell) → ((z y : Row) → Rows z y → at z ≡ at y) → op_value p xs w at o (stand_of one w r) ≡ op_value p xs w at o (stand_of two w q)
      op_same o at same = go o
        where
          cells : map at (stand_of one w r).ordered ≡ map at (stand_of two w q).ordered
          cells = same_map Told at at (λ z y m. same z y m.0) (stand_of one w r).ordered (stand_of two w q).ordered ordered_agree

          in_frame : seen w at (stand_of one w r) ≡ seen w at (stand_of two w q)
          in_frame = λ i. framed w (place_same i) (cells i)

          go : (f : AnalyticOp) → op_value p xs w at f (stand_of one w r) ≡ op_value p xs w at f (stand_of two w q)
          go op.Sum = ap (group_value p agg.Sum) in_frame
          go op.Avg = ap (group_value p agg.Avg) in_frame
          go op.Count = ap (group_value p agg.Count) in_frame
          go op.Min = ap (group_value p agg.Min) in_frame
          go op.Max = ap (group_value p agg.Max) in_frame
          go op.FirstValue = λ i. Ok (first_cell (in_frame i))
          go op.LastValue = λ i. Ok (last_cell (in_frame i))
          go (op.Lag m default) = λ i. Ok (lag_of m default (place_same i) (cells i))
          go (op.Lead m default) = λ i. Ok (lead_of m default (place_same i) (cells i))
          go op.Rank = rank_same
          go op.RatioToReport = λ i. ratio_of p (same r q g.0 i) (cells i)

  -- ---- data sets
  module _ (spec : AnalyticTree) (s : Structure) (i : IsAnalyzed p spec a.structure s) (d t : List Row) (agree : Together Rows d t) (dd : IsDataSet a.structure d) (tt : IsDataSet a.structure t) where
    abbrev N : ℕ
    N = key_width a.structure

    abbrev Apart : Row → Row → Type 0
    Apart r q = (Rows r q × (is_point xs r ≡ true) × (is_point xs q ≡ true)) × AllByRecursion (Alone N r) d × AllByRecursion (Alone N q) t

    apart_all : Together Apart d t
    apart_all =
        let T : Row → Row → Type 0 = λ r q. Rows r q × (is_point xs r ≡ true) × (is_point xs q ≡ true) in
        together_left T (λ r. AllByRecursion (Alone N r) d) (λ q. AllByRecursion (Alone N q) t) Apart (λ r q g x y. (g, x, y)) d t
        (together_with Rows (λ z. is_point xs z ≡ true) (λ z. is_point xs z ≡ true) d t agree dd.typed tt.typed) (alone_in N d dd.distinct) (alone_in N t tt.distinct)

    argument_same : (name : Option (List ℕ)) → IsKnown known (source_if_named a name) → (z y : Row) → Rows z y → argument xs name z ≡ argument xs name y
    argument_same None h z y g = refl
    argument_same (Some name) h z y g = same_named known a z y g name h

    value_made : (kind : Kind) (v : ValueTree) → IsKnown known (source_of_value a v) → (r q : Row) → Apart r q → tree_value p (with_points a.structure d) kind v r ≡ tree_value p (with_points a.structure t) kind v q
    value_made kind (nodes.scalar e) h r q g = value_same known p a r q (same_at known a r q g.0.0) no_pairs e h
    value_made kind (nodes.analytic call) h r q g =
        let own = (window_known (source_if_named a call.component) call.window h).0 in
        ap (λ m. after m (as_kind p kind)) (op_same (source_if_named a call.component) call.window h d t agree dd tt r q g.0 g.1 g.2 call.op (argument xs call.component) (argument_same call.component own))

    cell_made : (r q : Row) → Apart r q → (y : Component) → IsKnown known (source_made a spec y) → cell_or_null (made_of p spec (with_points a.structure d) y r) ≡ cell_or_null (made_of p spec (with_points a.structure t) y q)
    cell_made r q g y = go (value_for spec y)
      where
        go : (o : Option ValueTree) → IsKnown known (option_map_or (source_of_value a) o (source_named a y.name)) → cell_or_null (option_map_or (λ v. tree_value p (with_points a.structure d) y.kind v r) o (Ok (column_of (place_of y.name xs) r))) ≡ cell_or_null (option_map_or (λ v. tree_value p (with_points a.structure t) y.kind v q) o (Ok (column_of (place_of y.name xs) q)))
        go None h = same_named known a r q g.0.0 y.name h
        go (Some v) h = ap cell_or_null (value_made y.kind v h r q g)

    pub analytic_agrees : (out other : List Row) → analytic_of p spec (with_points a.structure d) s ≡ Ok out → analytic_of p spec (with_points a.structure t) s ≡ Ok other → Agreeing known (columns_from s (of_made a spec s)) out other
    analytic_agrees out other k l =
        let one = made_of p spec (with_points a.structure d) in
        let two = made_of p spec (with_points a.structure t) in
        let ys = identifiers_of s in
        let zs = others_of s in
        let Q = Agree known (columns_from s (of_made a spec s)) in
        let split : (f : Component → Cell) → map f (columns_of s) ≡ map f ys ++ map f zs = λ f. ap (map f) (columns_split s) ∙ map-append f ys zs in
        let free : AllByRecursion (λ y. IsIdentifierOf a.structure y.name × (value_for spec y ≡ None)) ys =
        all_both (λ y. IsIdentifierOf a.structure y.name) (λ y. value_for spec y ≡ None) (λ y. IsIdentifierOf a.structure y.name × (value_for spec y ≡ None)) (λ y x z. (x, z)) ys (subst (λ us. AllByRecursion (λ y. IsIdentifierOf a.structure y.name) us) (sym i.identifiers) (own_identifier_names a.structure)) i.free in
        both_ok Q (faults_by (groups.group_fault one (columns_of s)) d) (faults_by (groups.group_fault two (columns_of s)) t) (map (points.point_of one (columns_of s)) d) out (map (points.point_of two (columns_of s)) t) other
        (together_map Apart Q (points.point_of one (columns_of s)) (points.point_of two (columns_of s))
        (λ r q g.
        let f : Component → Cell = λ y. cell_or_null (one y r) in
        let h : Component → Cell = λ y. cell_or_null (two y q) in
        subst (λ z. Q z (map h (columns_of s))) (sym (split f)) (subst (λ z. Q (map f ys ++ map f zs) z) (sym (split h))
        (agree_joined known no_pairs ys (map (λ y. source_made a spec y) zs) (map f ys) (map h ys) (map f zs) (map h zs)
        (agree_map_all known (λ y. IsIdentifierOf a.structure y.name × (value_for spec y ≡ None)) (λ y. no_pairs) f h ys (λ y x u. stays r q g y x.0 x.1) free)
        (agree_map known (λ y. source_made a spec y) f h zs (cell_made r q g)))))
        d t apart_all) k l
      where
        stays : (r q : Row) → Apart r q → (y : Component) → IsIdentifierOf a.structure y.name → value_for spec y ≡ None → cell_or_null (made_of p spec (with_points a.structure d) y r) ≡ cell_or_null (made_of p spec (with_points a.structure t) y q)
        stays r q g y x e =
            ap (λ o. cell_or_null (option_map_or (λ v. tree_value p (with_points a.structure d) y.kind v r) o (Ok (column_of (place_of y.name xs) r)))) e
            ∙ same_identifier known a r q g.0.0 y.name x
            ∙ sym (ap (λ o. cell_or_null (option_map_or (λ v. tree_value p (with_points a.structure t) y.kind v q) o (Ok (column_of (place_of y.name xs) q)))) e)
