-- The place of a row in its partition is its place in the sorted partition.
use Rattle.std.proofs.Common.{◌≡◌, ℕ, zero, suc, ◌+◌, ◌<◌, List, [], ◌∷◌, length, get_or, drop, Bool, true, false, cond, refl, sym, ap, ◌∙◌, arith, true≢false, ◌⊎◌, inl, inr}
use Rattle.std.specs.List.{AllByRecursion, count_by, fold}
use Rattle.vtl_lists.specs.Sorting.{IsOrder, Rises, le_by}
use Rattle.vtl_lists.proofs.Perms.{Perm-sym}
use Rattle.vtl_lists.proofs.Sorts.{Perm-sorted_by, Rises-sorted_by}
use Rattle.vtl_lists.proofs.Alls.{all_get}
use Rattle.vtl_cell.specs.Row.{Row, same_row}
use Rattle.vtl_cell.specs.Sorted.{Key, in_order, window_cmp}
use Rattle.vtl_cell.proofs.Keys.{window_order}
use Rattle.vtl_cell.proofs.Rows.{same_row-is, same_row-refl}
use Rattle.sql_meaning.specs.Windows.{place_within}
use Rattle.sql_meaning.proofs.UpToOrder.{count_by-Perm}

abbrev bit : Bool → ℕ
bit b = cond b 1 0

fold_from : (f : Row → ℕ) (a : ℕ) (xs : List Row) → fold (λ b x. b + f x) a xs ≡ a + fold (λ b x. b + f x) 0 xs
fold_from f a [] = omega arith
fold_from f a (x ∷ xs) = let one = fold_from f (a + f x) xs in let two = fold_from f (0 + f x) xs in omega (arith, one, two)

count_more : (t : Row → Bool) (x : Row) (xs : List Row) → count_by t (x ∷ xs) ≡ cond (t x) 1 0 + count_by t xs
count_more t x xs = let e = fold_from (λ y. cond (t y) 1 0) (0 + cond (t x) 1 0) xs in omega (arith, e)

module _ (le : Row → Row → Bool) (o : IsOrder le) where
  no_way : {A : Type 0} (b : Bool) → b ≡ true → b ≡ false → A
  no_way b e h = absurd (true≢false (sym e ∙ h))

  itself : (x : Row) → le x x ≡ true
  itself x = either (o.total x x)
    where
      either : (le x x ≡ true) ⊎ (le x x ≡ true) → le x x ≡ true
      either (inl h) = h
      either (inr h) = h

  -- of those that are not below a row, only the same ones are not above it
  not_above : (x q : Row) → le x q ≡ true → le q x ≡ same_row x q
  not_above x q h = go (le q x) refl (same_row x q) refl
    where
      go : (a : Bool) → le q x ≡ a → (b : Bool) → same_row x q ≡ b → a ≡ b
      go true e true s = refl
      go false e false s = refl
      go true e false s = sym (same_row-refl x) ∙ ap (same_row x) (o.antisym x q h e) ∙ s
      go false e true s = sym e ∙ ap (λ z. le z x) (sym (same_row-is x q s)) ∙ itself x

  same_count : (x : Row) (xs : List Row) → AllByRecursion (λ q. le x q ≡ true) xs → count_by (λ q. le q x) xs ≡ count_by (same_row x) xs
  same_count x [] all = refl
  same_count x (q ∷ xs) all = count_more (λ z. le z x) q xs ∙ (λ i. cond (not_above x q all.0 i) 1 0 + same_count x xs all.1 i) ∙ sym (count_more (same_row x) q xs)

  count_at : (xs : List Row) (i : ℕ) (d : Row) → Rises le xs → i < length xs → count_by (λ q. le q (get_or xs i d)) xs ≡ i + 1 + count_by (same_row (get_or xs i d)) (drop (i + 1) xs)
  count_at [] i d r h = absurd (omega arith)
  count_at (x ∷ xs) zero d r h =
      let e = count_more (λ q. le q x) x xs in
      let one : ◌≡◌ {A = ℕ} (bit (le x x)) 1 = ap (λ (b : Bool). bit b) (itself x) in
      let same = same_count x xs r.0 in
      omega (arith, e, one, same)
  count_at (x ∷ xs) (suc i) d r h =
      let y = get_or xs i d in
      let e = count_more (λ q. le q y) x xs in
      let one : ◌≡◌ {A = ℕ} (bit (le x y)) 1 = ap (λ (b : Bool). bit b) (all_get (λ q. le x q ≡ true) xs i d (omega arith) r.0) in
      let ih = count_at xs i d r.1 (omega arith) in
      let next : suc i + 1 ≡ suc (i + 1) = omega arith in
      let same = ap (λ n. count_by (same_row y) (drop n (x ∷ xs))) next in
      omega (arith, e, one, ih, same)

-- the row at each place of the sorted partition, with the number of those behind it that are the same, has that place
pub places_are : (keys : List Key) (partition : List Row) (i : ℕ) (d : Row) → i < length (in_order keys [] partition)
    → place_within keys partition (get_or (in_order keys [] partition) i d, count_by (same_row (get_or (in_order keys [] partition) i d)) (drop (i + 1) (in_order keys [] partition))) ≡ i
places_are keys partition i d h =
    let le = le_by (window_cmp keys []) in
    let l = in_order keys [] partition in
    let y = get_or l i d in
    let e = count_by-Perm (λ q. le q y) (Perm-sym (Perm-sorted_by (window_order keys []) partition)) in
    let at = count_at le (window_order keys []) l i d (Rises-sorted_by (window_order keys []) partition) h in
    omega (arith, e, at)
