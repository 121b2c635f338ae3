-- Rows in order by several keys are in order by the first of these, and, where all tie by the first, by the others.
use Rattle.std.proofs.Common.{◌≡◌, ℕ, Bool, true, false, not, List, ◌++◌, map, refl, sym, ap, ◌∙◌}
use Rattle.std.specs.Cmp.{Equal-is}
use Rattle.std.specs.List.{AllByRecursion}
use Rattle.std.specs.Ordering.{is_lt, nat_cmp, on, ordering_then, then_cmp}
use Rattle.std.specs.declared.cmp.Ordering.{Ordering}
use Rattle.std.proofs.lemmas.List.{map-append}
use Rattle.vtl_cell.specs.Row.{Row}
use Rattle.vtl_cell.specs.Sorted.{by_keys}
use Rattle.vtl_lists.specs.Sorting.{le_by}
use Rattle.vtl_cell.proofs.Keys.{by_keys_total}
use Rattle.vtl_lists.proofs.Sorts.{Rises-from_IsSorted}
use Rattle.vtl_rows.specs.Keys.{key_of, tie_by}
use Rattle.vtl_rows.specs.Places.{IsOrderOf, row_at}
use Rattle.vtl_rows.specs.declared.column.SortKey.{SortKey}
use Rattle.vtl_rows.proofs.AllColumns.{keys_append}
use Rattle.vtl_rows.proofs.Stable.{first_not_less, placed_total}
use Rattle.vtl_frames.specs.Ranked.{AreInOrder}
use Rattle.vtl_frames.proofs.ListLemmas.{all_true, rises_with}

-- what is at most by two orders one after the other is so by the first
first_le : (o q : Ordering) → not (is_lt (ordering_then o q)) ≡ true → not (is_lt o) ≡ true
first_le o q h = ap not (first_not_less o q (not_true (is_lt (ordering_then o q)) h))
  where
    not_true : (b : Bool) → not b ≡ true → b ≡ false
    not_true true e = sym e
    not_true false e = refl

module _ (rows : List Row) where
  -- at most by keys, of rows by their numbers
  abbrev pub at_most : List SortKey → ℕ → ℕ → Bool
  at_most keys j k = le_by (by_keys (map key_of keys)) (row_at rows j) (row_at rows k)

  -- what a sort leaves is in order
  pub sort_order : (keys : List SortKey) (places : List ℕ) → IsOrderOf keys rows places → AreInOrder keys rows places
  sort_order keys places order =
      let R = by_keys (map key_of keys) in
      rises_with (λ k. Unit {0}) (le_by (then_cmp (on (row_at rows) (by_keys (map key_of keys))) nat_cmp)) (at_most keys) (λ j k a b. first_le (R (row_at rows k) (row_at rows j)) (nat_cmp k j)) places (all_true places)
      (Rises-from_IsSorted (placed_total (row_at rows) (by_keys_total (map key_of keys))) places order.placed)

  module _ (ks ls : List SortKey) where
    parts : (q r : Row) → by_keys (map key_of (ks ++ ls)) q r ≡ ordering_then (by_keys (map key_of ks) q r) (by_keys (map key_of ls) q r)
    parts q r = ap (λ keys. by_keys keys q r) (map-append key_of ks ls) ∙ keys_append (map key_of ks) (map key_of ls) q r

    pub first_order : (places : List ℕ) → AreInOrder (ks ++ ls) rows places → AreInOrder ks rows places
    first_order places =
        rises_with (λ k. Unit {0}) (at_most (ks ++ ls)) (at_most ks)
        (λ j k a b h. first_le (by_keys (map key_of ks) (row_at rows k) (row_at rows j)) (by_keys (map key_of ls) (row_at rows k) (row_at rows j)) (ap (λ o. not (is_lt o)) (sym (parts (row_at rows k) (row_at rows j))) ∙ h))
        places (all_true places)

    pub last_order : (A : ℕ → Type 0) → ((j k : ℕ) → A j → A k → tie_by ks (row_at rows j) (row_at rows k) ≡ true) → (places : List ℕ) → AllByRecursion A places → AreInOrder (ks ++ ls) rows places → AreInOrder ls rows places
    last_order A tie =
        rises_with A (at_most (ks ++ ls)) (at_most ls)
        (λ j k a b h.
        let q = row_at rows k in
        let r = row_at rows j in
        ap (λ o. not (is_lt (ordering_then o (by_keys (map key_of ls) q r)))) (sym ((Equal-is (by_keys (map key_of ks) q r)).0 (tie k j b a)))
        ∙ ap (λ o. not (is_lt o)) (sym (parts q r)) ∙ h)
