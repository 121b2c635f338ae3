-- A call has at each place of a partition in order the value at the point there.
use Rattle.std.proofs.Common.{◌≡◌, ℕ, ◌-◌, ◌<◌, Bool, true, not, List, [], ◌++◌, length, drop, take, get_or, map, refl, sym, ap, ◌∙◌, arith, ◌⊎◌, inl, inr, true≢false}
use Rattle.std.specs.Prelude.{count_by}
use Rattle.std.specs.Ordering.{is_eq, is_lt, ordering_then, ordering_reverse}
use Rattle.std.specs.declared.cmp.Ordering.{Ordering}
use Rattle.std.specs.declared.cmp.Ordering.TheVariants.{Less, Equal, Greater}
use Rattle.std.proofs.lemmas.Bool.{and_parts, cases_order}
use Rattle.std.proofs.lemmas.List.{get_or-map, length-map}
use Rattle.vtl_lists.specs.Perm.{chain}
use Rattle.vtl_cell.specs.Row.{Row, row_cmp, same_key, same_row}
use Rattle.vtl_decimal.specs.Settings.{Settings}
use Rattle.vtl_cell.specs.Sorted.{Key, by_keys, rising, window_cmp}
use Rattle.vtl_lists.specs.Sorting.{Rises, le_by}
use Rattle.vtl_cell.specs.declared.cell.Cell.{Cell}
use Rattle.vtl_lists.proofs.Aparts.{all_apart-Perm, all_apart-filter}
use Rattle.vtl_cell.proofs.Keys.{window_order}
use Rattle.vtl_lists.proofs.Perms.{Perm-sym}
use Rattle.vtl_cell.proofs.Rows.{row_cmp_total, same_row-is, same_row-refl, same_row-sym}
use Rattle.vtl_lists.proofs.Sorts.{Perm-sorted_by, Rises-map, sorted_is}
use Rattle.vtl_lists.proofs.Alls.{all_get}
use Rattle.vtl_rows.specs.Keys.{agree}
use Rattle.vtl_rows.specs.Places.{IsOrderOf, row_at}
use Rattle.vtl_rows.specs.Tables.{cells_at}
use Rattle.vtl_rows.specs.declared.column.SortKey.{SortKey}
use Rattle.vtl_rows.proofs.AllColumns.{keys_append}
use Rattle.vtl_rows.proofs.Ties.{both_tie, ties_agree}
use Rattle.vtl_tree.specs.DataSet.{IsDataSet, is_point}
use Rattle.vtl_tree.specs.Environment.{DataSet}
use Rattle.vtl_tree.specs.Structure.{columns_of, key_width}
use Rattle.vtl_tree.specs.declared.structure.Component.{Component}
use Rattle.vtl_tree.specs.Columns.{identifiers_of}
use Rattle.vtl_meaning.specs.Groups.{places_named}
use Rattle.vtl_meaning.specs.Windows.{argument, call_value, identifier_places, keys_in, op_value, partition_of, stand_of}
use Rattle.vtl_tree.specs.declared.calls.AnalyticCall.{AnalyticCall}
use Rattle.vtl_tree.specs.declared.calls.AnalyticOp.{AnalyticOp}
use Rattle.vtl_tree.specs.declared.calls.AnalyticOp.TheVariants as op
use Rattle.vtl_meaning.proofs.Places.{key_cells, key_within}
use Rattle.vtl_meaning.proofs.WindowPlaces.{rows_apart}
use Rattle.vtl_window.specs.Runs.{run_values, stand_at, value_at}
use Rattle.vtl_window.specs.Sorted.{identifier_keys, order_keys, partition_keys, sort_keys, tie_breakers}
use Rattle.vtl_frames.proofs.ListLemmas.{listed, map_same, rises_with}
use Rattle.vtl_frames.proofs.OrderLemmas.{at_most}
use Rattle.vtl_frames.proofs.RankLemmas.{count_by-Perm, row_rank-Perm}
use Rattle.vtl_frames.proofs.StretchLemmas.{IsStretch}
use Rattle.vtl_window.proofs.PartitionLemmas.{perm_at, run_order, within}
use Rattle.vtl_window.proofs.PlaceLemmas.{apart_at, place_in}
use Rattle.vtl_window.proofs.SortLemmas.{order_ids_are}

-- ---- identifiers
-- points of one data set that tie by all identifiers are one
module _ (d : DataSet) (own : IsDataSet d.structure d.points) where
  abbrev point : ℕ → Row
  point k = row_at d.points k

  key_is : (k : ℕ) → k < length d.points → cells_at (identifier_places d.structure) (point k) ≡ take (key_width d.structure) (point k)
  key_is k h =
      let is = all_get (λ r. is_point (columns_of d.structure) r ≡ true) d.points k [] h own.typed in
      key_cells d.structure d.structure (point k) own.well_formed (refl, refl) (key_within d.structure (point k) is)

  not_apart : (j k : ℕ) → j < k → k < length d.points → take (key_width d.structure) (point j) ≡ take (key_width d.structure) (point k) → ⊥
  not_apart j k h l e =
      true≢false (sym (ap (same_row (take (key_width d.structure) (point j))) (sym e) ∙ same_row-refl (take (key_width d.structure) (point j))) ∙ apart_at (same_key (key_width d.structure)) d.points j k h l own.distinct)

  one_point : (j k : ℕ) → j < length d.points → k < length d.points → is_eq (by_keys (map rising (identifier_places d.structure)) (point j) (point k)) ≡ true → point j ≡ point k
  one_point j k h l t = go (cases_order j k)
    where
      cells : cells_at (identifier_places d.structure) (point j) ≡ cells_at (identifier_places d.structure) (point k)
      cells = same_row-is (cells_at (identifier_places d.structure) (point j)) (cells_at (identifier_places d.structure) (point k)) (sym (ties_agree (identifier_places d.structure) (point j) (point k)) ∙ t)

      keys : take (key_width d.structure) (point j) ≡ take (key_width d.structure) (point k)
      keys = sym (key_is j h) ∙ cells ∙ key_is k l

      go : (j ≡ k) ⊎ ((j < k) ⊎ (k < j)) → point j ≡ point k
      go (inl same) = ap point same
      go (inr (inl less)) = absurd (not_apart j k less l keys)
      go (inr (inr more)) = absurd (not_apart k j more h (sym keys))

  own_row : (o : Ordering) → o ≡ ordering_reverse o → not (is_lt o) ≡ true
  own_row Less e = cc
  own_row Equal e = refl
  own_row Greater e = refl

  -- so whole rows need not be looked at
  by_identifiers : (ks : List Key) (j k : ℕ) → j < length d.points → k < length d.points → le_by (by_keys (ks ++ map rising (identifier_places d.structure))) (point j) (point k) ≡ true → le_by (window_cmp ks (identifier_places d.structure)) (point j) (point k) ≡ true
  by_identifiers ks j k h l e = go (by_keys (ks ++ map rising (identifier_places d.structure)) (point k) (point j)) refl e
    where
      ids : List Key
      ids = map rising (identifier_places d.structure)

      last_tie : by_keys (ks ++ ids) (point k) (point j) ≡ Equal → is_eq (by_keys ids (point k) (point j)) ≡ true
      last_tie t =
          (and_parts (is_eq (by_keys ks (point k) (point j))) (is_eq (by_keys ids (point k) (point j))) (sym (both_tie (by_keys ks (point k) (point j)) (by_keys ids (point k) (point j))) ∙ ap is_eq (sym (keys_append ks ids (point k) (point j)) ∙ t))).1

      go : (o : Ordering) → by_keys (ks ++ ids) (point k) (point j) ≡ o → not (is_lt o) ≡ true → not (is_lt (ordering_then o (row_cmp (point k) (point j)))) ≡ true
      go Less t n = cc
      go Greater t n = refl
      go Equal t n =
          let one = one_point k j l h (last_tie t) in
          ap (λ r. not (is_lt (row_cmp (point k) r))) (sym one) ∙ own_row (row_cmp (point k) (point k)) (row_cmp_total.antisymm (point k) (point k))

-- ---- places
module _ (d : DataSet) (own : IsDataSet d.structure d.points) (call : AnalyticCall) (places : List ℕ) where
  abbrev xs : List Component
  xs = columns_of d.structure

  abbrev rows : List Row
  rows = d.points

  abbrev listed_keys : List Key
  listed_keys = keys_in xs call.window

  abbrev ids : List ℕ
  ids = identifier_places d.structure

  -- these numbers stand in the order by these identifiers last
  abbrev IsOrder : List Component → Type 0
  IsOrder last = IsOrderOf (sort_keys xs last call.window) rows places

  module _ (s e : ℕ) (h : IsStretch (partition_keys xs call.window) rows places s e) where
    abbrev run : List ℕ
    run = take (e - s) (drop s places)

    abbrev at : ℕ → Row
    at i = row_at rows (get_or run i 0)

    -- where no two points tie a partition stands in its one order
    module _ (order : IsOrder (identifiers_of d.structure)) where
      abbrev last_keys : List SortKey
      last_keys = identifier_keys xs (identifiers_of d.structure)

      abbrev le : Row → Row → Bool
      le = le_by (window_cmp listed_keys ids)

      run_rises : Rises (λ j k. le (row_at rows j) (row_at rows k)) run
      run_rises =
          rises_with (λ k. k < length rows) (at_most rows (order_keys xs call.window ++ last_keys)) (λ j k. le (row_at rows j) (row_at rows k))
          (λ j k l m t. by_identifiers d own listed_keys j k l m (ap (λ ks. le_by (by_keys ks) (row_at rows j) (row_at rows k)) (sym (order_ids_are xs (identifiers_of d.structure) call.window)) ∙ t))
          run (within d call.window last_keys places order s e h) (run_order d call.window last_keys places order s e h)

      rows_rise : Rises le (map (row_at rows) run)
      rows_rise = Rises-map (row_at rows) le run run_rises

      ordered_is : (i : ℕ) → i < length run → map (row_at rows) run ≡ (stand_of d call.window (at i)).ordered
      ordered_is i l = sorted_is (window_order listed_keys ids) (partition_of d call.window (at i)) (map (row_at rows) run) (perm_at d call.window last_keys places order s e h i l) rows_rise

      -- the place of a point is the number of points of the partition before it
      place_is : (i : ℕ) → i < length run → i ≡ (stand_of d call.window (at i)).place
      place_is i l =
          let r = at i in
          let ordered = map (row_at rows) run in
          let agreed = places_named call.window.partition xs in
          let perm = perm_at d call.window last_keys places order s e h i l in
          let apart = sym (all_apart-Perm same_row same_row-sym perm) ∙ all_apart-filter same_row (λ q. agree agreed q r) rows (rows_apart (key_width d.structure) rows own.distinct) in
          let there : get_or ordered i [] ≡ r = get_or-map (row_at rows) run i 0 [] l in
          let inside : i < length ordered = let many = length-map run (row_at rows) in omega (arith, many, l) in
          sym (place_in listed_keys ids ordered rows_rise apart i inside) ∙ ap (λ q. count_by (λ z. is_lt (window_cmp listed_keys ids z q)) ordered) there
          ∙ sym (count_by-Perm (λ z. is_lt (window_cmp listed_keys ids z r)) perm)

      stand_is : (i : ℕ) → i < length run → stand_at rows run i ≡ stand_of d call.window (at i)
      stand_is i l = λ n. record { point = at i; place = place_is i l n; ordered = ordered_is i l n }

    -- ---- values
    module _ (p : Settings) where
      abbrev arg : Row → Cell
      arg = argument xs call.component

      -- a rank is one in any order of the partition
      value_is : (o : AnalyticOp) → IsOrder (tie_breakers o (identifiers_of d.structure)) → (i : ℕ) → i < length run
          → op_value p xs call.window arg o (stand_at rows run i) ≡ op_value p xs call.window arg o (stand_of d call.window (at i))
      value_is op.Rank order i l = row_rank-Perm p listed_keys (at i) (Perm-sym (chain (Perm-sorted_by (window_order listed_keys ids) (partition_of d call.window (at i))) (perm_at d call.window [] places order s e h i l)))
      value_is o order i l = ap (op_value p xs call.window arg o) (stand_is order i l)

      pub partition_values : IsOrder (tie_breakers call.op (identifiers_of d.structure)) → run_values p xs call rows run ≡ map (λ k. call_value p d call (row_at rows k)) run
      partition_values order =
          map_same (λ i. value_at p xs call (stand_at rows run i)) (λ i. call_value p d call (at i)) (length run) (length run) refl (value_is call.op order)
          ∙ listed (λ k. call_value p d call (row_at rows k)) run 0
