-- Row numbers in the order of a window, cut where partitions begin, are its partitions.
use Rattle.std.proofs.Common.{◌≡◌, ℕ, ◌+◌, ◌-◌, ◌<◌, List, [], ◌∷◌, ◌++◌, length, drop, take, get_or, map, Bool, true, false, not, cond, refl, sym, ap, ◌∙◌, arith, true≢false, subst, append-nil, All}
use Rattle.std.specs.Prelude.{count_by, filter}
use Rattle.std.specs.Cmp.{IsTotalOrder}
use Rattle.std.specs.FinMap.{nat_cmp-IsAntisymmetric}
use Rattle.std.specs.List.{AllByRecursion, range_with_len}
use Rattle.std.specs.Ordering.{is_lt, nat_cmp, on, ordering_then, then_cmp}
use Rattle.std.specs.declared.cmp.Ordering.{Ordering}
use Rattle.std.specs.declared.cmp.Ordering.TheVariants.{Equal}
use Rattle.std.proofs.lemmas.List.{map-append}
use Rattle.vtl_lists.specs.Perm.{chain}
use Rattle.vtl_cell.specs.Row.{Row, row_cmp, same_row}
use Rattle.vtl_cell.specs.Sorted.{by_keys, in_order, rising, window_cmp}
use Rattle.vtl_lists.specs.Sorting.{Rises, le_by, sorted_by}
use Rattle.vtl_cell.proofs.Aggregates.{ratio-Perm}
use Rattle.vtl_cell.proofs.Keys.{by_keys_total, window_order, no_tie}
use Rattle.vtl_lists.proofs.Perms.{Perm-map, Perm-sym}
use Rattle.vtl_cell.proofs.Rows.{same_row-is}
use Rattle.vtl_lists.proofs.Sorts.{Perm-sorted_by, sorted_by-from_sort}
use Rattle.vtl_lists.proofs.Alls.{all_more}
use Rattle.vtl_rows.specs.Keys.{agree, key_of}
use Rattle.vtl_rows.specs.Places.{IsOrderOf, row_at}
use Rattle.vtl_rows.specs.declared.column.SortKey.{SortKey}
use Rattle.vtl_rows.proofs.AllColumns.{all_keys, keys_append}
use Rattle.vtl_rows.proofs.Stable.{placed_total}
use Rattle.vtl_frames.specs.Ranked.{AreInOrder}
use Rattle.vtl_frames.proofs.ListLemmas.{listed, map_same, rises_with}
use Rattle.vtl_frames.proofs.OrderLemmas.{at_most}
use Rattle.vtl_frames.proofs.PartitionLemmas as partitions
use Rattle.vtl_frames.proofs.RankLemmas.{count_cons, row_rank-Perm}
use Rattle.vtl_frames.proofs.RunLemmas.{IsOne}
use Rattle.vtl_frames.proofs.StretchLemmas.{IsStretch}
use Rattle.sql_tree.specs.declared.windows.Over.{Over}
use Rattle.sql_tree.specs.declared.windows.Window.{Window}
use Rattle.sql_tree.specs.declared.windows.WindowCall.{WindowCall}
use Rattle.sql_tree.specs.declared.windows.WindowCall.TheVariants as call
use Rattle.sql_tree.specs.declared.word_groups.ValueFunction.TheVariants as value
use Rattle.sql_meaning.specs.Values.{View, cell_at}
use Rattle.sql_meaning.specs.Windows.{call_value, cells_of, keys_of, partition_of, partition_places, stand_in}
use Rattle.sql_window.specs.Keys.{AreSorted, rising_key, tie_breakers}
use Rattle.sql_window.specs.Runs.{IsPartition, IsTold, behind, run_values, stand_at, window_at}
use Rattle.sql_window.proofs.PartitionLemmas.{stand_is}
use Rattle.sql_window.proofs.StandLemmas.{numbered, told_sorted}

rising_keys : (ks : List ℕ) → map key_of (map rising_key ks) ≡ map rising ks
rising_keys [] = refl
rising_keys (k ∷ ks) = ap (λ l. rising k ∷ l) (rising_keys ks)

-- ---- rows that are the same pass a test together
module _ (rows : List Row) (A : Row → Bool) where
  abbrev same_at : ℕ → ℕ → Bool
  same_at j k = same_row (row_at rows j) (row_at rows k)

  other : (j k : ℕ) → A (row_at rows j) ≡ true → A (row_at rows k) ≡ false → (b : Bool) → same_at j k ≡ b → b ≡ false
  other j k e h true same = absurd (true≢false (sym e ∙ ap A (same_row-is (row_at rows j) (row_at rows k) same) ∙ h))
  other j k e h false same = refl

  count_passed : (j : ℕ) (ks : List ℕ) → A (row_at rows j) ≡ true → count_by (same_at j) (filter (λ k. A (row_at rows k)) ks) ≡ count_by (same_at j) ks
  count_passed j [] e = refl
  count_passed j (k ∷ ks) e = go (A (row_at rows k)) refl (count_passed j ks e)
    where
      passed : List ℕ
      passed = filter (λ i. A (row_at rows i)) ks

      go : (b : Bool) → A (row_at rows k) ≡ b → count_by (same_at j) passed ≡ count_by (same_at j) ks → count_by (same_at j) (cond b (k ∷ passed) passed) ≡ count_by (same_at j) (k ∷ ks)
      go true h ih = count_cons (same_at j) k passed ∙ ap (λ n. cond (same_at j k) 1 0 + n) ih ∙ sym (count_cons (same_at j) k ks)
      go false h ih =
          let none : count_by (same_at j) ks ≡ 0 + count_by (same_at j) ks = omega arith in
          ih ∙ none ∙ ap (λ b. cond b 1 0 + count_by (same_at j) ks) (sym (other j k e h (same_at j k) refl)) ∙ sym (count_cons (same_at j) k ks)

  told_passed : (ks : List ℕ) → IsTold rows ks → IsTold rows (filter (λ k. A (row_at rows k)) ks)
  told_passed [] told = tt
  told_passed (k ∷ ks) told = go (A (row_at rows k)) refl (told_passed ks told.1)
    where
      passed : List ℕ
      passed = filter (λ i. A (row_at rows i)) ks

      go : (b : Bool) → A (row_at rows k) ≡ b → IsTold rows passed → IsTold rows (cond b (k ∷ passed) passed)
      go true h ih = (count_passed k ks h ∙ told.0, ih)
      go false h ih = ih

-- ---- a sort by any keys tells rows that are the same apart by their numbers
all_told : (keys : List SortKey) (rows : List Row) (places : List ℕ) → IsOrderOf keys rows places → IsTold rows places
all_told keys rows places order = subst (IsTold rows) (sym sorted_places) (told_sorted rows R total 0 (length rows) (omega arith))
  where
    R : Row → Row → Ordering
    R = by_keys (map key_of keys)

    total : IsTotalOrder (by_keys (map key_of keys))
    total = by_keys_total (map key_of keys)

    ties : (i j : ℕ) → then_cmp (on (row_at rows) (by_keys (map key_of keys))) nat_cmp i j ≡ Equal → i ≡ j
    ties i j e = nat_cmp-IsAntisymmetric i j (no_tie (by_keys (map key_of keys) (row_at rows i) (row_at rows j)) (nat_cmp i j) e)

    sorted_places : places ≡ sorted_by (numbered rows (by_keys (map key_of keys)) total) (range_with_len 0 (length rows))
    sorted_places = sorted_by-from_sort (placed_total (row_at rows) total) ties (range_with_len 0 (length rows)) places order.all order.placed

-- ---- partitions
module _ (v : View) (o : Over) (partition order : List SortKey) (rows : List Row) (width : ℕ) (places : List ℕ) (partition_is : map key_of partition ≡ map rising (partition_places v o)) (order_is : map key_of order ≡ keys_of v o)
    (wide : All (λ r. length r ≡ width) rows) (s e : ℕ) (cut : IsStretch partition rows places s e) where
  abbrev pl : List ℕ
  pl = partition_places v o

  abbrev run : List ℕ
  run = take (e - s) (drop s places)

  abbrev at : ℕ → Row
  at i = row_at rows (get_or run i 0)

  abbrev columns : List SortKey
  columns = map rising_key (range_with_len 0 width)

  -- by all columns last
  module _ (placed : IsOrderOf ((partition ++ order) ++ map rising_key (range_with_len 0 width)) rows places) where
    abbrev start : Row
    start = row_at rows (get_or places s 0)

    run_wide : AllByRecursion (λ k. length (row_at rows k) ≡ width) run
    run_wide =
        all_more (λ k. k < length rows) (λ k. length (row_at rows k) ≡ width) (λ k l. wide k [] l) run
        (partitions.within pl partition partition_is order columns rows places placed s e cut)

    -- the listed keys and all columns are the order of the meaning
    window_is : (q r : Row) → length q ≡ width → length r ≡ width → by_keys (map key_of (order ++ map rising_key (range_with_len 0 width))) q r ≡ window_cmp (keys_of v o) [] q r
    window_is q r a b =
        ap (λ ks. by_keys ks q r) (map-append key_of order columns) ∙ keys_append (map key_of order) (map key_of columns) q r
        ∙ ap (λ ks. ordering_then (by_keys (map key_of order) q r) (by_keys ks q r)) (rising_keys (range_with_len 0 width))
        ∙ ap (ordering_then (by_keys (map key_of order) q r)) (all_keys width q r a b)
        ∙ ap (λ ks. ordering_then (by_keys ks q r) (row_cmp q r)) (order_is ∙ sym (append-nil (keys_of v o)))

    rises : Rises (λ j k. le_by (window_cmp (keys_of v o) []) (row_at rows j) (row_at rows k)) run
    rises =
        rises_with (λ k. length (row_at rows k) ≡ width) (at_most rows (order ++ columns)) (λ j k. le_by (window_cmp (keys_of v o) []) (row_at rows j) (row_at rows k))
        (λ j k a b t. ap (λ c. not (is_lt c)) (sym (window_is (row_at rows k) (row_at rows j) b a)) ∙ t) run run_wide
        (partitions.run_order pl partition partition_is order columns rows places placed s e cut)

    told : IsTold rows run
    told =
        subst (IsTold rows) (partitions.run_is pl partition partition_is order columns rows places placed s e cut start refl)
        (told_passed rows (λ r. agree pl r start) places (all_told ((partition ++ order) ++ columns) rows places placed))

    is_partition : IsPartition v o rows run
    is_partition = record { members = λ i l. Perm-sym (partitions.perm_at pl partition partition_is order columns rows places placed s e cut i l); rises = rises; told = told }

  -- ---- values
  -- a rank and a share of the total are one in any order of the partition
  value_is : (c : WindowCall) → IsOrderOf ((partition ++ order) ++ tie_breakers c width) rows places → (i : ℕ) → i < length run
      → call_value v c o (stand_at rows run i) ≡ call_value v c o (stand_in (keys_of v o) (partition_of pl rows (at i)) (at i, behind rows (get_or run i 0)))
  value_is call.Rank placed i l =
      row_rank-Perm v.base.settings (keys_of v o) (at i)
      (Perm-sym (chain (Perm-sorted_by (window_order (keys_of v o) []) (partition_of pl rows (at i))) (partitions.perm_at pl partition partition_is order [] rows places placed s e cut i l)))
  value_is (call.Value value.RatioToReport x) placed i l =
      ratio-Perm v.base.settings (cell_at v (at i) x) (cells_of v x (map (row_at rows) run)) (cells_of v x (in_order (keys_of v o) [] (partition_of pl rows (at i))))
      (Perm-map (λ q. cell_at v q x) (Perm-sym (chain (Perm-sorted_by (window_order (keys_of v o) []) (partition_of pl rows (at i))) (partitions.perm_at pl partition partition_is order [] rows places placed s e cut i l))))
  value_is c placed i l = ap (call_value v c o) (stand_is v o rows run (is_partition placed) i l)

-- the values of a window over one of its partitions, which stands in the listed order
module _ (v : View) (w : Window) (partition order : List SortKey) (rows : List Row) (width : ℕ) (places run : List ℕ) (h : AreSorted v w partition order rows width places) (one : IsOne partition rows places run) where
  pub stretch_values : run_values v w.call w.over rows run ≡ map (window_at v w rows) run
  stretch_values =
      ap (run_values v w.call w.over rows) one.is
      ∙ map_same (λ i. call_value v w.call w.over (stand_at rows cut_run i)) (λ i. window_at v w rows (get_or cut_run i 0)) (length cut_run) (length cut_run) refl
      (value_is v w.over partition order rows width places h.partition_is h.order_is h.wide one.start one.end one.cut w.call h.placed)
      ∙ listed (window_at v w rows) cut_run 0 ∙ ap (map (window_at v w rows)) (sym one.is)
    where
      cut_run : List ℕ
      cut_run = take (one.end - one.start) (drop one.start places)

  pub stretch_order : AreInOrder order rows run
  stretch_order =
      subst (AreInOrder order rows) (sym one.is) (partitions.by_order (partition_places v w.over) partition h.partition_is order (tie_breakers w.call width) rows places h.placed one.start one.end one.cut)
