-- Over a partition in order the row at each place stands where the meaning has it.
use Rattle.std.proofs.Common.{◌≡◌, ℕ, zero, suc, ◌+◌, ◌<◌, inl, inr, List, [], ◌∷◌, length, get_or, map, Bool, true, false, cond, refl, sym, ap, ◌∙◌, arith, true≢false}
use Rattle.std.specs.Prelude.{count_by}
use Rattle.std.specs.List.{AllByRecursion}
use Rattle.vtl_cell.specs.Row.{Row, same_row}
use Rattle.vtl_cell.specs.Sorted.{in_order, window_cmp}
use Rattle.vtl_lists.specs.Sorting.{IsOrder, Rises, le_by}
use Rattle.vtl_cell.proofs.Keys.{window_order}
use Rattle.vtl_lists.proofs.Perms.{Perm-sym}
use Rattle.vtl_cell.proofs.Rows.{same_row-is, same_row-refl}
use Rattle.vtl_lists.proofs.Sorts.{Rises-map, sorted_is}
use Rattle.vtl_lists.proofs.Alls.{all_get, all_more}
use Rattle.vtl_rows.specs.Places.{row_at}
use Rattle.sql_tree.specs.declared.windows.Over.{Over}
use Rattle.sql_meaning.specs.Values.{View}
use Rattle.sql_meaning.specs.Windows.{keys_of, partition_of, partition_places, place_within, stand_in}
use Rattle.vtl_frames.proofs.RankLemmas.{count_by-Perm, count_cons, count_map}
use Rattle.sql_window.specs.Runs.{IsPartition, IsTold, behind, stand_at}

-- ---- counts
count_same : {X : Type 0} (p q : X → Bool) (xs : List X) → AllByRecursion (λ x. p x ≡ q x) xs → count_by p xs ≡ count_by q xs
count_same p q [] all = refl
count_same p q (x ∷ xs) all = count_cons p x xs ∙ ap (λ b. cond b 1 0 + count_by p xs) all.0 ∙ ap (λ n. cond (q x) 1 0 + n) (count_same p q xs all.1) ∙ sym (count_cons q x xs)

-- ---- places
module _ (rows : List Row) {le : Row → Row → Bool} (o : IsOrder le) where
  le_self : (r : Row) → le r r ≡ true
  le_self r = elim (o.total r r) [ inl e ↦ e | inr e ↦ e ]

  -- of what is not before a row only what is the same is not behind it
  only_same : (j k : ℕ) → le (row_at rows j) (row_at rows k) ≡ true → le (row_at rows k) (row_at rows j) ≡ same_row (row_at rows j) (row_at rows k)
  only_same j k h = go (le (row_at rows k) (row_at rows j)) (same_row (row_at rows j) (row_at rows k)) refl refl
    where
      go : (a b : Bool) → le (row_at rows k) (row_at rows j) ≡ a → same_row (row_at rows j) (row_at rows k) ≡ b → a ≡ b
      go true true e f = refl
      go false false e f = refl
      go true false e f =
          let one = o.antisym (row_at rows j) (row_at rows k) h e in
          absurd (true≢false (sym (ap (same_row (row_at rows j)) (sym one) ∙ same_row-refl (row_at rows j)) ∙ f))
      go false true e f =
          let one = same_row-is (row_at rows j) (row_at rows k) f in
          absurd (true≢false (sym (ap (λ r. le r (row_at rows j)) (sym one) ∙ le_self (row_at rows j)) ∙ e))

  counted : (run : List ℕ) → Rises (λ j k. le (row_at rows j) (row_at rows k)) run → IsTold rows run → (i : ℕ) → i < length run
      → count_by (λ k. le (row_at rows k) (row_at rows (get_or run i 0))) run ≡ i + (behind rows (get_or run i 0) + 1)
  counted [] rises told i h = absurd (omega (arith, h))
  counted (j ∷ run) rises told zero h =
      let rest = count_same (λ k. le (row_at rows k) (row_at rows j)) (λ k. same_row (row_at rows j) (row_at rows k)) run (all_more (λ k. le (row_at rows j) (row_at rows k) ≡ true) (λ k. le (row_at rows k) (row_at rows j) ≡ same_row (row_at rows j) (row_at rows k)) (λ k e. only_same j k e) run rises.0) in
      count_cons (λ k. le (row_at rows k) (row_at rows j)) j run ∙ ap (λ b. cond b 1 0 + count_by (λ k. le (row_at rows k) (row_at rows j)) run) (le_self (row_at rows j))
      ∙ omega (arith, rest, told.0)
  counted (j ∷ run) rises told (suc i) h =
      let before = all_get (λ k. le (row_at rows j) (row_at rows k) ≡ true) run i 0 (omega (arith, h)) rises.0 in
      let rest = counted run rises.1 told.1 i (omega (arith, h)) in
      count_cons (λ k. le (row_at rows k) (row_at rows (get_or run i 0))) j run ∙ ap (λ b. cond b 1 0 + count_by (λ k. le (row_at rows k) (row_at rows (get_or run i 0))) run) before
      ∙ omega (arith, rest)

-- ---- stands
module _ (v : View) (o : Over) (rows : List Row) (run : List ℕ) (h : IsPartition v o rows run) where
  abbrev part : ℕ → List Row
  part i = partition_of (partition_places v o) rows (row_at rows (get_or run i 0))

  ordered_is : (i : ℕ) → i < length run → map (row_at rows) run ≡ in_order (keys_of v o) [] (part i)
  ordered_is i l =
      sorted_is (window_order (keys_of v o) []) (part i) (map (row_at rows) run) (Perm-sym (h.members i l)) (Rises-map (row_at rows) (le_by (window_cmp (keys_of v o) [])) run h.rises)

  place_is : (i : ℕ) → i < length run → i ≡ place_within (keys_of v o) (part i) (row_at rows (get_or run i 0), behind rows (get_or run i 0))
  place_is i l =
      let r = row_at rows (get_or run i 0) in
      let le = le_by (window_cmp (keys_of v o) []) in
      let all = sym (count_by-Perm (λ q. le q r) (h.members i l)) ∙ count_map (λ q. le q r) (row_at rows) run ∙ counted rows (window_order (keys_of v o) []) run h.rises h.told i l in
      omega (arith, all)

  -- at each place a stand is that of the meaning
  pub stand_is : (i : ℕ) → i < length run → stand_at rows run i ≡ stand_in (keys_of v o) (part i) (row_at rows (get_or run i 0), behind rows (get_or run i 0))
  stand_is i l = λ n. record { row = row_at rows (get_or run i 0); place = place_is i l n; ordered = ordered_is i l n }
