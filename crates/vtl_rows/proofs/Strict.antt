-- Places of rows each of which is before the next one: no two rows tie.
use Rattle.std.proofs.Common.{◌≡◌, ℕ, ◌+◌, ◌<◌, ◌≤◌, ◌⊎◌, inl, inr, None, List, map, length, get_or, Bool, false, true, arith, sym, ap, ◌∙◌, subst, true≢false, refl, ltb}
use Rattle.std.specs.List.{range_with_len}
use Rattle.std.specs.List.Sorted.{IsPermutation, IsSorted}
use Rattle.std.specs.Ordering.{is_eq, is_gt, is_lt, nat_cmp, on, ordering_then, then_cmp}
use Rattle.std.specs.declared.cmp.Ordering.{Ordering}
use Rattle.std.specs.declared.cmp.Ordering.TheVariants.{Less, Equal, Greater}
use Rattle.std.proofs.lemmas.Bool.{cases_order, and_parts}
use Rattle.std.proofs.lemmas.List.{get_or_default}
use Rattle.std.proofs.lemmas.List.Sorted.{IsPermutation-refl}
use Rattle.vtl_cell.proofs.Keys.{by_keys_total}
use Rattle.vtl_cell.specs.Sorted.{by_keys}
use Rattle.vtl_cell.specs.Row.{Row}
use Rattle.vtl_rows.specs.declared.column.SortKey.{SortKey}
use Rattle.vtl_rows.specs.Keys.{FindsSame, key_of, tie_by}
use Rattle.vtl_rows.specs.Places.{IsOrderOf, row_at, ties_before}
use Rattle.vtl_rows.proofs.Least.{IsBelow, none_found}
use Rattle.vtl_rows.proofs.Placed.{order_is}
use Rattle.vtl_rows.proofs.Ties.{ties_turn}

after : (o s : Ordering) → is_gt o ≡ true → is_lt (ordering_then o s) ≡ false
after Less s e = absurd (true≢false (sym e))
after Equal s e = absurd (true≢false (sym e))
after Greater s e = refl

not_tied : (o : Ordering) → is_gt o ≡ true → is_eq o ≡ true → ⊥
not_tied Less e t = true≢false (sym e)
not_tied Equal e t = true≢false (sym e)
not_tied Greater e t = true≢false (sym t)

module _ (keys : List SortKey) (rows : List Row) (places : List ℕ) where
  abbrev IsAfter : ℕ → Type 0
  IsAfter k = is_gt (by_keys (map key_of keys) (row_at rows (get_or places (k + 1) 0)) (row_at rows (get_or places k 0))) ≡ true

  -- so are the first pairs of neighbours
  abbrev pub IsStrict : ℕ → Type 0
  IsStrict n = (k : ℕ) → k < n → k + 1 < length places → IsAfter k

  pub strict_more : (n : ℕ) → IsStrict n → IsAfter n → IsStrict (n + 1)
  strict_more n before e k h within = go (cases_order k n)
    where
      go : (k ≡ n) ⊎ ((k < n) ⊎ (n < k)) → IsAfter k
      go (inl same) = subst IsAfter (sym same) e
      go (inr (inl less)) = before k less within
      go (inr (inr more)) = absurd (omega (arith, more, h))

  module _ (all : IsPermutation (range_with_len 0 (length rows)) places) (n : ℕ) (strict : IsStrict n) (ended : length places ≤ n + 1) where
    sorted : IsSorted (then_cmp (on (row_at rows) (by_keys (map key_of keys))) nat_cmp) places
    sorted k d z h =
        ap (λ i. is_lt (ordering_then (by_keys (map key_of keys) (row_at rows i) (row_at rows (get_or places k d))) (nat_cmp i (get_or places k d)))) (get_or_default places (k + 1) d 0 h)
        ∙ ap (λ i. is_lt (ordering_then (by_keys (map key_of keys) (row_at rows (get_or places (k + 1) 0)) (row_at rows i)) (nat_cmp (get_or places (k + 1) 0) i))) (get_or_default places k d 0 (omega (arith, h)))
        ∙ after (by_keys (map key_of keys) (row_at rows (get_or places (k + 1) 0)) (row_at rows (get_or places k 0))) (nat_cmp (get_or places (k + 1) 0) (get_or places k 0)) (strict k (omega (arith, ended, h)) h)

    order : IsOrderOf keys rows places
    order = order_is keys rows places places all (IsPermutation-refl places) sorted

    below : IsBelow keys rows places (length places) (length rows)
    below k h within t =
        let p = get_or places k 0 in
        let q = get_or places (k + 1) 0 in
        let both = and_parts (ltb p q) (tie_by keys (row_at rows p) (row_at rows q)) t in
        let back = sym (ties_turn (by_keys_total (map key_of keys)) (row_at rows p) (row_at rows q)) ∙ both.1 in
        absurd (not_tied (by_keys (map key_of keys) (row_at rows q) (row_at rows p)) (strict k (omega (arith, ended, within)) within) back)

    pub strictly_apart : FindsSame (tie_by keys) rows None
    strictly_apart = none_found keys rows places order (length rows) (record { few = omega arith; one = λ h. absurd (omega (arith, h)); below = below }) (omega arith)
