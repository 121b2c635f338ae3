-- Rows that are sorted by the first columns, and then by all, are sorted by all.
use Rattle.std.proofs.Common.{◌≡◌, ℕ, zero, suc, ◌+◌, not, cond, List, [], ◌∷◌, ◌++◌, map, length, true, false, refl, sym, ap, ◌∙◌, subst, arith, append-nil, append_assoc, length-append}
use Rattle.std.specs.List.{AllByRecursion, position_or_len, range_with_len}
use Rattle.std.specs.Ordering.{is_lt, ordering_then}
use Rattle.std.specs.declared.cmp.Ordering.{Ordering}
use Rattle.std.specs.declared.cmp.Ordering.TheVariants.{Less, Equal, Greater}
use Rattle.std.specs.Cmp.Lexicographic.{nat_list_eq_equiv}
use Rattle.vtl_lists.specs.Apart.{all_apart}
use Rattle.vtl_lists.specs.Sorting.{le_by, sorted_by}
use Rattle.vtl_text.specs.Texts.{same_text}
use Rattle.vtl_cell.specs.declared.cell.Cell.{Cell}
use Rattle.vtl_cell.specs.declared.cell.Cell.TheVariants as c
use Rattle.vtl_cell.specs.Order.{cell_cmp}
use Rattle.vtl_cell.specs.Row.{Row, column_of, row_cmp}
use Rattle.vtl_cell.specs.Sorted.{Key, by_keys, in_order, rising, window_cmp}
use Rattle.vtl_lists.proofs.Aparts.{apart_parts}
use Rattle.vtl_rows.proofs.AllColumns.{sorted_alike}

-- ---- one order after another
swallowed : (c k r : Ordering) → ordering_then k r ≡ r → ordering_then (ordering_then c k) (ordering_then c r) ≡ ordering_then c r
swallowed Less k r e = refl
swallowed Equal k r e = e
swallowed Greater k r e = refl

-- ---- the first columns
places_up : (a n : ℕ) → range_with_len (a + 1) n ≡ map suc (range_with_len a n)
places_up a zero = refl
places_up a (suc n) = let up : a + 1 ≡ suc a = omega arith in ap (λ i. i ∷ range_with_len (a + 1 + 1) n) up ∙ ap (λ l. suc a ∷ l) (places_up (a + 1) n)

keys_behind : (places : List ℕ) (x y : Cell) (r s : Row) → by_keys (map rising (map suc places)) (x ∷ r) (y ∷ s) ≡ by_keys (map rising places) r s
keys_behind [] x y r s = refl
keys_behind (i ∷ is) x y r s = ap (ordering_then (cell_cmp (column_of i r) (column_of i s))) (keys_behind is x y r s)

-- no cells are as nulls, which stand first
both_ended : (places : List ℕ) → ordering_then (by_keys (map rising places) [] []) Equal ≡ Equal
both_ended [] = refl
both_ended (i ∷ is) = both_ended is

none_before : (places : List ℕ) (s : Row) → ordering_then (by_keys (map rising places) [] s) Less ≡ Less
none_before [] s = refl
none_before (i ∷ is) s = go (column_of i s) (none_before is s)
  where
    go : (v : Cell) → ordering_then (by_keys (map rising is) [] s) Less ≡ Less → ordering_then (ordering_then (cell_cmp c.Null v) (by_keys (map rising is) [] s)) Less ≡ Less
    go c.Null ih = ih
    go (c.Bool b) ih = refl
    go (c.Int n) ih = refl
    go (c.Num n) ih = refl
    go (c.Text t) ih = refl
    go (c.Day d) ih = refl
    go (c.Period q) ih = refl

none_behind : (places : List ℕ) (r : Row) → ordering_then (by_keys (map rising places) r []) Greater ≡ Greater
none_behind [] r = refl
none_behind (i ∷ is) r = go (column_of i r) (none_behind is r)
  where
    go : (v : Cell) → ordering_then (by_keys (map rising is) r []) Greater ≡ Greater → ordering_then (ordering_then (cell_cmp v c.Null) (by_keys (map rising is) r [])) Greater ≡ Greater
    go c.Null ih = ih
    go (c.Bool b) ih = refl
    go (c.Int n) ih = refl
    go (c.Num n) ih = refl
    go (c.Text t) ih = refl
    go (c.Day d) ih = refl
    go (c.Period q) ih = refl

-- by the first columns, and then by all, is by all
first_then_all : (n : ℕ) (r s : Row) → ordering_then (by_keys (map rising (range_with_len 0 n)) r s) (row_cmp r s) ≡ row_cmp r s
first_then_all zero r s = refl
first_then_all (suc n) [] [] = both_ended (range_with_len 0 (suc n))
first_then_all (suc n) [] (y ∷ s) = none_before (range_with_len 0 (suc n)) (y ∷ s)
first_then_all (suc n) (x ∷ r) [] = none_behind (range_with_len 0 (suc n)) (x ∷ r)
first_then_all (suc n) (x ∷ r) (y ∷ s) =
    ap (λ is. ordering_then (ordering_then (cell_cmp x y) (by_keys (map rising is) (x ∷ r) (y ∷ s))) (ordering_then (cell_cmp x y) (row_cmp r s))) (places_up 0 n)
    ∙ ap (λ k. ordering_then (ordering_then (cell_cmp x y) k) (ordering_then (cell_cmp x y) (row_cmp r s))) (keys_behind (range_with_len 0 n) x y r s)
    ∙ swallowed (cell_cmp x y) (by_keys (map rising (range_with_len 0 n)) r s) (row_cmp r s) (first_then_all n r s)

pub sorted_by_first : (n : ℕ) (rows : List Row) → in_order (map rising (range_with_len 0 n)) [] rows ≡ sorted_by (le_by row_cmp) rows
sorted_by_first n rows = sorted_alike (λ r. Unit {0}) (le_by (window_cmp keys [])) (le_by row_cmp) (λ x y u v. ap (λ o. not (is_lt o)) (one_order y x)) rows (any rows)
  where
    keys : List Key
    keys = map rising (range_with_len 0 n)

    one_order : (r s : Row) → window_cmp keys [] r s ≡ row_cmp r s
    one_order r s = ap (λ ks. ordering_then (by_keys ks r s) (row_cmp r s)) (append-nil keys) ∙ first_then_all n r s

    any : (xs : List Row) → AllByRecursion (λ r. Unit {0}) xs
    any [] = tt
    any (x ∷ xs) = (tt, any xs)

-- ---- the places of the first names among distinct ones
place_there : (front : List (List ℕ)) (n : List ℕ) (more : List (List ℕ)) → AllByRecursion (λ m. same_text n m ≡ false) front → position_or_len (same_text n) (front ++ n ∷ more) ≡ length front
place_there [] n more differ = ap (λ b. cond (not b) (1 + position_or_len (same_text n) more) 0) (nat_list_eq_equiv.refl n)
place_there (m ∷ front) n more differ =
    let rest = place_there front n more differ.1 in
    ap (λ b. cond (not b) (1 + position_or_len (same_text n) (front ++ n ∷ more)) 0) differ.0 ∙ omega (arith, rest)

all_middle : {X : Type 0} (P : X → Type 0) (front : List X) (x : X) (more : List X) → AllByRecursion P (front ++ x ∷ more) → P x
all_middle P [] x more all = all.0
all_middle P (y ∷ front) x more all = all_middle P front x more all.1

earlier_differ : (front : List (List ℕ)) (n : List ℕ) (more : List (List ℕ)) → all_apart same_text (front ++ n ∷ more) ≡ true → AllByRecursion (λ m. same_text n m ≡ false) front
earlier_differ [] n more apart = tt
earlier_differ (m ∷ front) n more apart =
    let parts = apart_parts same_text m (front ++ n ∷ more) apart in
    (nat_list_eq_equiv.symm n m ∙ all_middle (λ k. same_text m k ≡ false) front n more parts.0, earlier_differ front n more parts.1)

pub first_places : (front names more : List (List ℕ)) → all_apart same_text (front ++ (names ++ more)) ≡ true → map (λ n. position_or_len (same_text n) (front ++ (names ++ more))) names ≡ range_with_len (length front) (length names)
first_places front [] more apart = refl
first_places front (n ∷ names) more apart =
    let one : front ++ (n ∷ (names ++ more)) ≡ (front ++ n ∷ []) ++ (names ++ more) = sym (append_assoc front (n ∷ []) (names ++ more)) in
    let size : length (front ++ n ∷ []) ≡ length front + 1 = length-append front (n ∷ []) in
    let rest = first_places (front ++ n ∷ []) names more (subst (λ l. all_apart same_text l ≡ true) one apart) in
    ap (λ i. i ∷ map (λ m. position_or_len (same_text m) (front ++ (n ∷ (names ++ more)))) names) (place_there front n (names ++ more) (earlier_differ front n (names ++ more) apart))
    ∙ ap (λ l. length front ∷ l) (ap (λ all. map (λ m. position_or_len (same_text m) all) names) one ∙ rest ∙ ap (λ i. range_with_len i (length names)) size)
