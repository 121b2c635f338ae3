-- A stretch of rows in order by the keys of a partition, and then by others, is a partition.
use Rattle.std.proofs.Common.{◌≡◌, ℕ, ◌-◌, ◌<◌, true, List, ◌++◌, length, drop, take, get_or, map, refl, sym, ap, ◌∙◌, subst, append_assoc}
use Rattle.std.specs.Prelude.{filter}
use Rattle.std.specs.List.{AllByRecursion, range_with_len}
use Rattle.std.specs.Ordering.{is_eq}
use Rattle.std.proofs.lemmas.List.Elements.{recursion_from_All}
use Rattle.vtl_lists.specs.Perm.{Perm}
use Rattle.vtl_cell.specs.Row.{Row, same_row}
use Rattle.vtl_cell.specs.Sorted.{by_keys, rising}
use Rattle.vtl_lists.proofs.Perms.{Perm-filter, Perm-from_IsPermutation, Perm-map, Perm-sym}
use Rattle.vtl_cell.proofs.Rows.{same_row-is, same_row-refl}
use Rattle.vtl_lists.proofs.Sorts.{AllByRecursion-filter, Rises-filter}
use Rattle.vtl_lists.proofs.Alls.{all_filtered, all_get, all_more}
use Rattle.vtl_lists.proofs.Filters.{map-filter}
use Rattle.vtl_rows.specs.Keys.{agree, key_of, tie_by}
use Rattle.vtl_rows.specs.Places.{IsOrderOf, row_at}
use Rattle.vtl_rows.specs.Tables.{cells_at}
use Rattle.vtl_rows.specs.declared.column.SortKey.{SortKey}
use Rattle.vtl_rows.proofs.Placed.{all_places, order_within}
use Rattle.vtl_rows.proofs.Ties.{ties_agree}
use Rattle.vtl_frames.specs.Ranked.{AreInOrder}
use Rattle.vtl_frames.proofs.OrderLemmas.{at_most, first_order, last_order, sort_order}
use Rattle.vtl_frames.proofs.StretchLemmas.{IsStretch, stretch_is}

-- Rows by their numbers, sorted by the keys of a partition, then by listed keys, and maybe by more.
module _ (agreed : List ℕ) (keys : List SortKey) (named : map key_of keys ≡ map rising agreed) (listed_keys rest : List SortKey) (rows : List Row) (places : List ℕ)
    (order : IsOrderOf ((keys ++ listed_keys) ++ rest) rows places) where
  sorted_perm : Perm (map (row_at rows) places) rows
  sorted_perm =
      subst (Perm (map (row_at rows) places)) (all_places rows) (Perm-map (row_at rows) (Perm-sym (Perm-from_IsPermutation (range_with_len 0 (length rows)) places order.all)))

  all_order : AreInOrder ((keys ++ listed_keys) ++ rest) rows places
  all_order = sort_order rows ((keys ++ listed_keys) ++ rest) places order

  pub by_partition : AreInOrder keys rows places
  by_partition = first_order rows keys listed_keys places (first_order rows (keys ++ listed_keys) rest places all_order)

  module _ (s e : ℕ) (h : IsStretch keys rows places s e) where
    abbrev run : List ℕ
    run = take (e - s) (drop s places)

    abbrev start : Row
    start = row_at rows (get_or places s 0)

    -- rows that agree with the first one
    abbrev pub IsMember : ℕ → Type 0
    IsMember k = cells_at agreed (row_at rows k) ≡ cells_at agreed start

    pub run_is : (r : Row) → cells_at agreed r ≡ cells_at agreed start → filter (λ k. agree agreed (row_at rows k) r) places ≡ run
    run_is r = stretch_is agreed keys named rows places by_partition s e h r

    pub members : AllByRecursion IsMember run
    members =
        all_more (λ k. agree agreed (row_at rows k) start ≡ true) IsMember (λ k. same_row-is (cells_at agreed (row_at rows k)) (cells_at agreed start)) run
        (subst (AllByRecursion (λ k. agree agreed (row_at rows k) start ≡ true)) (run_is start refl) (all_filtered (λ k. agree agreed (row_at rows k) start) places))

    pub within : AllByRecursion (λ k. k < length rows) run
    within =
        subst (AllByRecursion (λ k. k < length rows)) (run_is start refl)
        (AllByRecursion-filter (λ k. k < length rows) (λ k. agree agreed (row_at rows k) start) places (recursion_from_All (λ k. k < length rows) places (order_within ((keys ++ listed_keys) ++ rest) rows places order)))

    tie : (j k : ℕ) → IsMember j → IsMember k → tie_by keys (row_at rows j) (row_at rows k) ≡ true
    tie j k a b =
        let q = cells_at agreed (row_at rows j) in
        ap (λ ks. is_eq (by_keys ks (row_at rows j) (row_at rows k))) named ∙ ties_agree agreed (row_at rows j) (row_at rows k) ∙ ap (same_row q) (b ∙ sym a) ∙ same_row-refl q

    -- in order by what stands behind the keys of the partition
    pub run_order : AreInOrder (listed_keys ++ rest) rows run
    run_order =
        last_order rows keys (listed_keys ++ rest) IsMember tie run members
        (subst (λ ks. AreInOrder ks rows run) (append_assoc keys listed_keys rest)
        (subst (AreInOrder ((keys ++ listed_keys) ++ rest) rows) (run_is start refl) (Rises-filter (at_most rows ((keys ++ listed_keys) ++ rest)) (λ k. agree agreed (row_at rows k) start) places all_order)))

    pub by_order : AreInOrder listed_keys rows run
    by_order = first_order rows listed_keys rest run run_order

    -- the rows that agree with one of them, in some order
    partition_perm : (r : Row) → cells_at agreed r ≡ cells_at agreed start → Perm (filter (λ q. agree agreed q r) rows) (map (row_at rows) run)
    partition_perm r one =
        subst (Perm (filter (λ q. agree agreed q r) rows)) (sym (map-filter (row_at rows) (λ q. agree agreed q r) places) ∙ ap (map (row_at rows)) (run_is r one))
        (Perm-sym (Perm-filter (λ q. agree agreed q r) sorted_perm))

    pub perm_at : (i : ℕ) → i < length run → Perm (filter (λ q. agree agreed q (row_at rows (get_or run i 0))) rows) (map (row_at rows) run)
    perm_at i l = partition_perm (row_at rows (get_or run i 0)) (all_get IsMember run i 0 l members)
