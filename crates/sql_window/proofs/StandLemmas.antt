-- In a sorted list of row numbers each row has as many rows that are the same behind it as it has in the list of rows, and its
-- place in its partition is the place where its number stands.
use Rattle.std.proofs.Common.{◌≡◌, ℕ, zero, suc, ◌+◌, ◌<◌, List, [], ◌∷◌, length, drop, Bool, true, false, not, cond, refl, sym, ap, ◌∙◌, arith, true≢false}
use Rattle.std.specs.Prelude.{count_by}
use Rattle.std.specs.Cmp.{IsTotalOrder}
use Rattle.std.specs.List.{AllByRecursion, range_with_len}
use Rattle.std.specs.Ordering.{is_lt, nat_cmp, on, ordering_reverse, ordering_then, then_cmp}
use Rattle.std.specs.declared.cmp.Ordering.{Ordering}
use Rattle.std.specs.declared.cmp.Ordering.TheVariants.{Less, Equal, Greater}
use Rattle.std.proofs.lemmas.List.{drop_all, drop_more}
use Rattle.vtl_cell.specs.Row.{Row, same_row}
use Rattle.vtl_lists.specs.Sorting.{insert_by, le_by, sorted_by}
use Rattle.vtl_cell.proofs.Rows.{same_row-is, same_row-sym}
use Rattle.vtl_rows.specs.Places.{row_at}
use Rattle.vtl_frames.proofs.RankLemmas.{count_cons}
use Rattle.sql_window.specs.Runs.{IsTold, behind}

none_more : (n : ℕ) → n ≡ 0 + n
none_more n = omega arith

-- a count does not see where one is inserted
count_inserted : {X : Type 0} (le : X → X → Bool) (p : X → Bool) (x : X) (ys : List X) → count_by p (insert_by le x ys) ≡ cond (p x) 1 0 + count_by p ys
count_inserted le p x [] = count_cons p x []
count_inserted {X = X} le p x (y ∷ ys) = go (le x y) (count_inserted le p x ys)
  where
    go : (b : Bool) → count_by p (insert_by le x ys) ≡ cond (p x) 1 0 + count_by p ys → count_by p (cond b (x ∷ y ∷ ys) (y ∷ insert_by le x ys)) ≡ cond (p x) 1 0 + count_by p (y ∷ ys)
    go true ih = count_cons p x (y ∷ ys)
    go false ih = count_cons p y (insert_by le x ys) ∙ omega (arith, ih, count_cons p y ys)

count_sorted : {X : Type 0} (le : X → X → Bool) (p : X → Bool) (xs : List X) → count_by p (sorted_by le xs) ≡ count_by p xs
count_sorted le p [] = refl
count_sorted le p (x ∷ xs) = count_inserted le p x (sorted_by le xs) ∙ ap (λ n. cond (p x) 1 0 + n) (count_sorted le p xs) ∙ sym (count_cons p x xs)

module _ (rows : List Row) (R : Row → Row → Ordering) (total : IsTotalOrder R) where
  -- by the rows, and rows that tie by their numbers
  abbrev pub numbered : ℕ → ℕ → Bool
  numbered = le_by (then_cmp (on (row_at rows) R) nat_cmp)

  abbrev same_at : ℕ → ℕ → Bool
  same_at j k = same_row (row_at rows j) (row_at rows k)

  tied_to_itself : (r : Ordering) → r ≡ ordering_reverse r → r ≡ Equal
  tied_to_itself Less e = cc
  tied_to_itself Equal e = refl
  tied_to_itself Greater e = cc

  not_before : (j k : ℕ) → j < k → not (is_lt (nat_cmp k j)) ≡ true
  not_before j k h = grind (arith, h)

  -- of two rows that are the same the one of the smaller number comes first
  same_in_order : (j k : ℕ) → j < k → same_at j k ≡ true → numbered j k ≡ true
  same_in_order j k h e =
      let one : row_at rows j ≡ row_at rows k = same_row-is (row_at rows j) (row_at rows k) e in
      let tie : R (row_at rows k) (row_at rows j) ≡ Equal = ap (λ r. R (row_at rows k) r) one ∙ tied_to_itself (R (row_at rows k) (row_at rows k)) (total.antisymm (row_at rows k) (row_at rows k)) in
      ap (λ o. not (is_lt (ordering_then o (nat_cmp k j)))) tie ∙ not_before j k h

  not_same : (j k : ℕ) → j < k → numbered j k ≡ false → same_at j k ≡ false
  not_same j k h e = go (same_at j k) refl
    where
      go : (b : Bool) → same_at j k ≡ b → b ≡ false
      go true s = absurd (true≢false (sym (same_in_order j k h s) ∙ e))
      go false s = refl

  told_inserted : (j : ℕ) (ks : List ℕ) → AllByRecursion (λ k. j < k) ks → IsTold rows ks → count_by (same_at j) ks ≡ behind rows j → IsTold rows (insert_by numbered j ks)
  told_inserted j [] all told e = (e, tt)
  told_inserted j (k ∷ ks) all told e = go (numbered j k) refl (told_inserted j ks all.1 told.1)
    where
      go : (b : Bool) → numbered j k ≡ b → (count_by (same_at j) ks ≡ behind rows j → IsTold rows (insert_by numbered j ks)) → IsTold rows (cond b (j ∷ k ∷ ks) (k ∷ insert_by numbered j ks))
      go true h ih = (e, told)
      go false h ih =
          let other : same_at j k ≡ false = not_same j k all.0 h in
          let turned : same_at k j ≡ false = same_row-sym (row_at rows k) (row_at rows j) ∙ other in
          let own : count_by (same_at j) ks ≡ behind rows j = none_more (count_by (same_at j) ks) ∙ ap (λ b. cond b 1 0 + count_by (same_at j) ks) (sym other) ∙ sym (count_cons (same_at j) k ks) ∙ e in
          (count_inserted numbered (same_at k) j ks ∙ ap (λ b. cond b 1 0 + count_by (same_at k) ks) turned ∙ sym (none_more (count_by (same_at k) ks)) ∙ told.0, ih own)

  all_from : (j a n : ℕ) → j < a → AllByRecursion (λ k. j < k) (range_with_len a n)
  all_from j a zero h = tt
  all_from j a (suc n) h = (h, all_from j (a + 1) n (omega (arith, h)))

  all_sorted : (P : ℕ → Type 0) (ks : List ℕ) → AllByRecursion P ks → AllByRecursion P (sorted_by numbered ks)
  all_sorted P [] all = tt
  all_sorted P (k ∷ ks) all = inserted (sorted_by numbered ks) (all_sorted P ks all.1)
    where
      inserted : (js : List ℕ) → AllByRecursion P js → AllByRecursion P (insert_by numbered k js)
      inserted [] h = (all.0, tt)
      inserted (j ∷ js) h = go (numbered k j) (inserted js h.1)
        where
          go : (b : Bool) → AllByRecursion P (insert_by numbered k js) → AllByRecursion P (cond b (k ∷ j ∷ js) (j ∷ insert_by numbered k js))
          go true ih = (all.0, h)
          go false ih = (h.0, ih)

  -- numbers from one on count as the rows do
  count_from : (p : Row → Bool) (a n : ℕ) → a + n ≡ length rows → count_by (λ k. p (row_at rows k)) (range_with_len a n) ≡ count_by p (drop a rows)
  count_from p a zero e = sym (ap (count_by p) (drop_all a rows (omega (arith, e))))
  count_from p a (suc n) e =
      count_cons (λ k. p (row_at rows k)) a (range_with_len (a + 1) n)
      ∙ ap (λ m. cond (p (row_at rows a)) 1 0 + m) (count_from p (a + 1) n (omega (arith, e)))
      ∙ sym (count_cons p (row_at rows a) (drop (a + 1) rows))
      ∙ ap (count_by p) (sym (drop_more rows a [] (omega (arith, e))))

  pub told_sorted : (a n : ℕ) → a + n ≡ length rows → IsTold rows (sorted_by numbered (range_with_len a n))
  told_sorted a zero e = tt
  told_sorted a (suc n) e =
      told_inserted a (sorted_by numbered (range_with_len (a + 1) n)) (all_sorted (λ k. a < k) (range_with_len (a + 1) n) (all_from a (a + 1) n (omega arith)))
      (told_sorted (a + 1) n (omega (arith, e)))
      (count_sorted numbered (same_at a) (range_with_len (a + 1) n) ∙ count_from (same_row (row_at rows a)) (a + 1) n (omega (arith, e)))
