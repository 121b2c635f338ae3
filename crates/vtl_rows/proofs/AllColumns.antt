-- The order by all columns, from the left, is the order of rows.
use Rattle.std.proofs.Common.{◌≡◌, ℕ, zero, suc, ◌+◌, ◌<◌, ◌≤◌, List, [], ◌∷◌, ◌++◌, map, length, drop, Bool, true, false, cond, not, arith, refl, sym, ap, ◌∙◌, All}
use Rattle.std.specs.List.{AllByRecursion, range_with_len}
use Rattle.std.specs.Ordering.{is_lt, ordering_then}
use Rattle.std.specs.declared.cmp.Ordering.{Ordering}
use Rattle.std.specs.declared.cmp.Ordering.TheVariants.{Less, Equal, Greater}
use Rattle.std.proofs.Math.Seq.{drop-cons}
use Rattle.std.proofs.lemmas.List.{drop_all}
use Rattle.std.proofs.lemmas.List.Elements.{recursion_from_All}
use Rattle.vtl_lists.specs.Sorting.{insert_by, le_by, sorted_by}
use Rattle.vtl_cell.specs.declared.cell.Cell.TheVariants as c
use Rattle.vtl_cell.specs.Order.{cell_cmp}
use Rattle.vtl_cell.specs.Row.{Row, column_of, row_cmp}
use Rattle.vtl_cell.specs.Sorted.{Key, by_keys, in_order, key_cmp, rising, window_cmp}
use Rattle.vtl_rows.specs.declared.column.SortKey.{SortKey}
use Rattle.vtl_rows.specs.Keys.{key_of, ordered}

-- ---- one order after another
pub then_assoc : (p q r : Ordering) → ordering_then p (ordering_then q r) ≡ ordering_then (ordering_then p q) r
then_assoc Less q r = refl
then_assoc Equal q r = refl
then_assoc Greater q r = refl

pub then_equal : (p : Ordering) → ordering_then p Equal ≡ p
then_equal Less = refl
then_equal Equal = refl
then_equal Greater = refl

-- ---- the first columns, and then the others
pub first_keys : (a n : ℕ) (r s : Row) → a + n ≤ length r → a + n ≤ length s
    → row_cmp (drop a r) (drop a s) ≡ ordering_then (by_keys (map rising (range_with_len a n)) r s) (row_cmp (drop (a + n) r) (drop (a + n) s))
first_keys a zero r s h k = let z : a ≡ a + 0 = omega arith in ap (λ i. row_cmp (drop i r) (drop i s)) z
first_keys a (suc n) r s h k =
    let hr : a < length r = omega arith in
    let hs : a < length s = omega arith in
    let on : a + 1 + n ≡ a + suc n = omega arith in
    let up : suc a ≡ a + 1 = omega arith in
    ap (λ x. row_cmp x (drop a s)) (drop-cons r a c.Null hr) ∙ ap (λ y. row_cmp (column_of a r ∷ drop (suc a) r) y) (drop-cons s a c.Null hs)
    ∙ ap (λ i. ordering_then (cell_cmp (column_of a r) (column_of a s)) (row_cmp (drop i r) (drop i s))) up
    ∙ ap (ordering_then (cell_cmp (column_of a r) (column_of a s))) (first_keys (a + 1) n r s (omega (arith, h)) (omega (arith, k)) ∙ ap (λ i. ordering_then (by_keys (map rising (range_with_len (a + 1) n)) r s) (row_cmp (drop i r) (drop i s))) on)
    ∙ then_assoc (cell_cmp (column_of a r) (column_of a s)) (by_keys (map rising (range_with_len (a + 1) n)) r s) (row_cmp (drop (a + suc n) r) (drop (a + suc n) s))

-- ---- all columns
pub all_keys : (n : ℕ) (r s : Row) → length r ≡ n → length s ≡ n → by_keys (map rising (range_with_len 0 n)) r s ≡ row_cmp r s
all_keys n r s h k =
    let hr : 0 + n ≤ length r = omega (arith, h) in
    let hs : 0 + n ≤ length s = omega (arith, k) in
    let er : drop (0 + n) r ≡ [] = drop_all (0 + n) r (omega (arith, h)) in
    let es : drop (0 + n) s ≡ [] = drop_all (0 + n) s (omega (arith, k)) in
    sym (first_keys 0 n r s hr hs
    ∙ ap (λ x. ordering_then (by_keys (map rising (range_with_len 0 n)) r s) (row_cmp x (drop (0 + n) s))) er
    ∙ ap (λ y. ordering_then (by_keys (map rising (range_with_len 0 n)) r s) (row_cmp [] y)) es
    ∙ then_equal (by_keys (map rising (range_with_len 0 n)) r s))

pub keys_append : (ks ls : List Key) (r s : Row) → by_keys (ks ++ ls) r s ≡ ordering_then (by_keys ks r s) (by_keys ls r s)
keys_append [] ls r s = refl
keys_append (k ∷ ks) ls r s = ap (ordering_then (key_cmp k r s)) (keys_append ks ls r s) ∙ then_assoc (key_cmp k r s) (by_keys ks r s) (by_keys ls r s)

-- ---- two orders that agree on such items sort a list of them alike
module _ {X : Type 0} (W : X → Type 0) (le other : X → X → Bool) (same : (x y : X) → W x → W y → le x y ≡ other x y) where
  all_inserted : (x : X) (ys : List X) → W x → AllByRecursion W ys → AllByRecursion W (insert_by other x ys)
  all_inserted x [] w all = (w, tt)
  all_inserted x (y ∷ ys) w all = go (other x y) (all_inserted x ys w all.1)
    where
      go : (b : Bool) → AllByRecursion W (insert_by other x ys) → AllByRecursion W (cond b (x ∷ y ∷ ys) (y ∷ insert_by other x ys))
      go true ih = (w, all)
      go false ih = (all.0, ih)

  all_sorted : (xs : List X) → AllByRecursion W xs → AllByRecursion W (sorted_by other xs)
  all_sorted [] all = tt
  all_sorted (x ∷ xs) all = all_inserted x (sorted_by other xs) all.0 (all_sorted xs all.1)

  inserted_alike : (x : X) (ys : List X) → W x → AllByRecursion W ys → insert_by le x ys ≡ insert_by other x ys
  inserted_alike x [] w all = refl
  inserted_alike x (y ∷ ys) w all =
      ap (λ b. cond b (x ∷ y ∷ ys) (y ∷ insert_by le x ys)) (same x y w all.0)
      ∙ ap (λ l. cond (other x y) (x ∷ y ∷ ys) (y ∷ l)) (inserted_alike x ys w all.1)

  pub sorted_alike : (xs : List X) → AllByRecursion W xs → sorted_by le xs ≡ sorted_by other xs
  sorted_alike [] all = refl
  sorted_alike (x ∷ xs) all = ap (insert_by le x) (sorted_alike xs all.1) ∙ inserted_alike x (sorted_by other xs) all.0 (all_sorted xs all.1)

-- ---- keys, and last all columns
pub all_columns_last : (keys : List SortKey) (first : List Key) (places : List ℕ) (n : ℕ) (rows : List Row) → map key_of keys ≡ first ++ map rising places ++ map rising (range_with_len 0 n) → All (λ r. length r ≡ n) rows
    → ordered keys rows ≡ in_order first places rows
all_columns_last keys first places n rows e wide =
    ap (λ ks. sorted_by (le_by (by_keys ks)) rows) e
    ∙ sorted_alike (λ r. length r ≡ n) (le_by (by_keys (first ++ map rising places ++ map rising (range_with_len 0 n)))) (le_by (window_cmp first places)) alike rows (recursion_from_All (λ r. length r ≡ n) rows wide)
  where
    alike : (x y : Row) → length x ≡ n → length y ≡ n → le_by (by_keys (first ++ map rising places ++ map rising (range_with_len 0 n))) x y ≡ le_by (window_cmp first places) x y
    alike x y h k = ap (λ o. not (is_lt o)) (keys_append (first ++ map rising places) (map rising (range_with_len 0 n)) y x ∙ ap (ordering_then (by_keys (first ++ map rising places) y x)) (all_keys n y x k h))
