-- Equality and order of rows.
use Rattle.std.proofs.Common.{◌≡◌, ◌≢◌, ℕ, zero, suc, ◌+◌, ◌<◌, ◌≤◌, length, get_or, drop, arith, [], ◌∷◌, Bool, true, false, not, ◌&&◌, take, refl, sym, ap, ◌∙◌, subst, true≢false}
use Rattle.std.proofs.lemmas.List.{drop_more, drop_all}
use Rattle.std.specs.Ordering.{is_lt, ordering_then}
use Rattle.vtl_cell.specs.declared.cell.Cell.{Cell}
use Rattle.std.specs.declared.cmp.Ordering.{Ordering}
use Rattle.std.specs.declared.cmp.Ordering.TheVariants.{Less, Equal, Greater}
use Rattle.std.specs.Cmp.{IsTotalOrder}
use Rattle.std.specs.Cmp.Lexicographic.{lists_total}
use Rattle.std.specs.FinMap.{slice_cmp-IsAntisymmetric}
use Rattle.std.proofs.lemmas.Bool.{and_parts}
use Rattle.vtl_lists.specs.Sorting.{IsOrder, le_by}
use Rattle.vtl_lists.proofs.Sorts.{IsOrder-le_by}
use Rattle.vtl_cell.specs.Order.{cell_cmp, same_cell}
use Rattle.vtl_cell.specs.Row.{Row, same_row, same_key, row_cmp}
use Rattle.vtl_cell.proofs.Cells.{same_cell-is, same_cell-refl}
use Rattle.vtl_cell.proofs.Orders.{cell_cmp_total, cell_cmp-ties}

pub same_row-is : (x y : Row) → same_row x y ≡ true → x ≡ y
same_row-is [] [] e = refl
same_row-is [] (y ∷ ys) e = absurd (true≢false (sym e))
same_row-is (x ∷ xs) [] e = absurd (true≢false (sym e))
same_row-is (x ∷ xs) (y ∷ ys) e =
    let h = and_parts (same_cell x y) (same_row xs ys) e in ap (λ z. z ∷ xs) (same_cell-is x y h.0) ∙ ap (λ zs. y ∷ zs) (same_row-is xs ys h.1)

pub same_row-refl : (x : Row) → same_row x x ≡ true
same_row-refl [] = refl
same_row-refl (x ∷ xs) = ap (λ b. b && same_row xs xs) (same_cell-refl x) ∙ same_row-refl xs

pub same_row-sym : (x y : Row) → same_row x y ≡ same_row y x
same_row-sym x y = go (same_row x y) refl (same_row y x) refl
  where
    turned : (a b : Row) → same_row a b ≡ true → same_row b a ≡ true
    turned a b e = subst (λ z. same_row z a ≡ true) (same_row-is a b e) (same_row-refl a)

    go : (a : Bool) → same_row x y ≡ a → (b : Bool) → same_row y x ≡ b → a ≡ b
    go true e true h = refl
    go false e false h = refl
    go true e false h = sym (turned x y e) ∙ h
    go false e true h = sym e ∙ turned y x h

pub row_cmp_total : IsTotalOrder row_cmp
row_cmp_total = lists_total cell_cmp_total

pub row_cmp-ties : (x y : Row) → row_cmp x y ≡ Equal → x ≡ y
row_cmp-ties = slice_cmp-IsAntisymmetric cell_cmp-ties

pub row_order : IsOrder (le_by row_cmp)
row_order = IsOrder-le_by row_cmp_total row_cmp-ties

-- what stands before by its first cells stands before
first_differs : (o p q : Ordering) → (q ≡ Less → p ≡ Less) → ordering_then o q ≡ Less → ordering_then o p ≡ Less
first_differs Less p q f e = refl
first_differs Equal p q f e = f e
first_differs Greater p q f e = cc

less_by_front : (n : ℕ) (xs ys : Row) → row_cmp (take n xs) (take n ys) ≡ Less → row_cmp xs ys ≡ Less
less_by_front zero xs ys e = cc
less_by_front (suc n) [] [] e = e
less_by_front (suc n) [] (y ∷ ys) e = refl
less_by_front (suc n) (x ∷ xs) [] e = e
less_by_front (suc n) (x ∷ xs) (y ∷ ys) e = first_differs (cell_cmp x y) (row_cmp xs ys) (row_cmp (take n xs) (take n ys)) (less_by_front n xs ys) e

pub is_Less : (o : Ordering) → is_lt o ≡ true → o ≡ Less
is_Less Less e = refl
is_Less Equal e = absurd (true≢false (sym e))
is_Less Greater e = absurd (true≢false (sym e))

pub front_rises : (n : ℕ) (x y : Row) → le_by row_cmp x y ≡ true → le_by row_cmp (take n x) (take n y) ≡ true
front_rises n x y e = go (is_lt (row_cmp (take n y) (take n x))) refl
  where
    go : (b : Bool) → is_lt (row_cmp (take n y) (take n x)) ≡ b → not b ≡ true
    go true h = absurd (true≢false (sym e ∙ ap (λ o. not (is_lt o)) (less_by_front n y x (is_Less _ h))))
    go false h = refl

-- in order, rows with one key stand together
pub key_between : (n : ℕ) (x y z : Row) → le_by row_cmp x y ≡ true → le_by row_cmp y z ≡ true → same_key n x z ≡ true → same_key n x y ≡ true
key_between n x y z e h s =
    let back : le_by row_cmp (take n y) (take n x) ≡ true = subst (λ k. le_by row_cmp (take n y) k ≡ true) (sym (same_row-is (take n x) (take n z) s)) (front_rises n y z h) in
    let one = row_order.antisym (take n x) (take n y) (front_rises n x y e) back in
    subst (λ k. same_row (take n x) k ≡ true) one (same_row-refl (take n x))

pub same_key-sym : (n : ℕ) (x y : Row) → same_key n x y ≡ same_key n y x
same_key-sym n x y = same_row-sym (take n x) (take n y)

-- rows of different lengths
pub same_row_lengths : (xs ys : Row) → length xs ≢ length ys → same_row xs ys ≡ false
same_row_lengths [] [] h = absurd (h refl)
same_row_lengths [] (y ∷ ys) h = refl
same_row_lengths (x ∷ xs) [] h = refl
same_row_lengths (x ∷ xs) (y ∷ ys) h = go (same_cell x y) (same_row_lengths xs ys (λ e. h (omega (arith, e))))
  where
    go : (b : Bool) → same_row xs ys ≡ false → (b && same_row xs ys) ≡ false
    go true e = e
    go false e = refl

-- one place of two rows of one length
pub same_row-drop : (xs ys : Row) (i : ℕ) (x y : Cell) → i < length xs → i < length ys → x ≡ get_or xs i x → y ≡ get_or ys i y → same_row (drop i xs) (drop i ys) ≡ (same_cell x y && same_row (drop (i + 1) xs) (drop (i + 1) ys))
same_row-drop xs ys i x y h k at_x at_y =
    ap (λ l. same_row l (drop i ys)) (drop_more xs i x h) ∙ ap (λ l. same_row (get_or xs i x ∷ drop (i + 1) xs) l) (drop_more ys i y k)
    ∙ ap (λ a. same_cell a (get_or ys i y) && same_row (drop (i + 1) xs) (drop (i + 1) ys)) (sym at_x)
    ∙ ap (λ b. same_cell x b && same_row (drop (i + 1) xs) (drop (i + 1) ys)) (sym at_y)

pub same_row-ended : (xs ys : Row) (i : ℕ) → length xs ≤ i → length ys ≤ i → same_row (drop i xs) (drop i ys) ≡ true
same_row-ended xs ys i h k = ap (λ l. same_row l (drop i ys)) (drop_all i xs h) ∙ ap (same_row []) (drop_all i ys k)
