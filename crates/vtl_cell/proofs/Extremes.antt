-- The least and the greatest of a list are members of it and bounds.
use Rattle.std.proofs.Common.{◌≡◌, ◌<◌, List, [], ◌∷◌, Bool, true, not, length, refl, sym, ap, ◌∙◌, arith, ⊎_elim}
use Rattle.std.specs.Prelude.{Contains}
use Rattle.std.specs.List.{AllByRecursion}
use Rattle.std.specs.Ordering.{is_lt, is_le, is_ge, ordering_reverse}
use Rattle.std.specs.declared.cmp.Ordering.{Ordering}
use Rattle.std.specs.declared.cmp.Ordering.TheVariants.{Less, Equal, Greater}
use Rattle.std.proofs.lemmas.List.Sorted.{Contains-permutation}
use Rattle.vtl_lists.specs.Sorting.{IsOrder, Rises, le_by, sorted_by}
use Rattle.vtl_lists.proofs.Perms.{AllByRecursion-Perm, IsPermutation-from_Perm, length-Perm}
use Rattle.vtl_lists.proofs.Sorts.{Perm-sorted_by, Rises-sorted_by}
use Rattle.vtl_cell.specs.declared.cell.Cell.{Cell}
use Rattle.vtl_cell.specs.Groups.{least, greatest}
use Rattle.vtl_cell.specs.Order.{cell_cmp}
use Rattle.vtl_cell.specs.Row.{column_of}
use Rattle.vtl_cell.proofs.Aggregates.{rising_order, falling_order}
use Rattle.vtl_cell.proofs.Orders.{cell_cmp_total}

-- ---- the first of a rising list
first_is : (ys : List Cell) → 0 < length ys → Contains ys (column_of 0 ys)
first_is [] h = absurd (omega arith)
first_is (y ∷ ys) h = (0, omega arith, refl)

module _ {le : Cell → Cell → Bool} (o : IsOrder le) where
  itself : (x : Cell) → le x x ≡ true
  itself x = ⊎_elim (λ e. e) (λ e. e) (o.total x x)

  first_bounds : (ys : List Cell) → Rises le ys → AllByRecursion (λ y. le (column_of 0 ys) y ≡ true) ys
  first_bounds [] r = tt
  first_bounds (y ∷ ys) r = (itself y, r.0)

  first_member : (xs : List Cell) → 0 < length xs → Contains xs (column_of 0 (sorted_by le xs))
  first_member xs h =
      let ys = sorted_by le xs in
      let same = Perm-sorted_by o xs in
      let some : 0 < length ys = omega (arith, length-Perm same) in
      Contains-permutation ys xs (column_of 0 ys) (IsPermutation-from_Perm same) (first_is ys some)

  first_bound : (xs : List Cell) → AllByRecursion (λ x. le (column_of 0 (sorted_by le xs)) x ≡ true) xs
  first_bound xs = AllByRecursion-Perm (λ x. le (column_of 0 (sorted_by le xs)) x ≡ true) (Perm-sorted_by o xs) (first_bounds (sorted_by le xs) (Rises-sorted_by o xs))

-- ---- at most, and at least, as the order of two cells says
all_more : (P Q : Cell → Type 0) → ((x : Cell) → P x → Q x) → (xs : List Cell) → AllByRecursion P xs → AllByRecursion Q xs
all_more P Q f [] all = tt
all_more P Q f (x ∷ xs) all = (f x all.0, all_more P Q f xs all.1)

turned : (r : Ordering) → not (is_lt (ordering_reverse r)) ≡ is_le r
turned Less = refl
turned Equal = refl
turned Greater = refl

not_less : (r : Ordering) → not (is_lt r) ≡ is_ge r
not_less Less = refl
not_less Equal = refl
not_less Greater = refl

at_most : (x y : Cell) → le_by cell_cmp x y ≡ true → is_le (cell_cmp x y) ≡ true
at_most x y e = sym (turned (cell_cmp x y)) ∙ ap (λ r. not (is_lt r)) (sym (cell_cmp_total.antisymm y x)) ∙ e

at_least : (x y : Cell) → le_by cell_cmp y x ≡ true → is_ge (cell_cmp x y) ≡ true
at_least x y e = sym (not_less (cell_cmp x y)) ∙ e

pub least_member : (xs : List Cell) → 0 < length xs → Contains xs (least xs)
least_member xs h = first_member rising_order xs h

pub least_bound : (xs : List Cell) → AllByRecursion (λ x. is_le (cell_cmp (least xs) x) ≡ true) xs
least_bound xs = all_more (λ x. le_by cell_cmp (least xs) x ≡ true) (λ x. is_le (cell_cmp (least xs) x) ≡ true) (λ x e. at_most (least xs) x e) xs (first_bound rising_order xs)

pub greatest_member : (xs : List Cell) → 0 < length xs → Contains xs (greatest xs)
greatest_member xs h = first_member falling_order xs h

pub greatest_bound : (xs : List Cell) → AllByRecursion (λ x. is_ge (cell_cmp (greatest xs) x) ≡ true) xs
greatest_bound xs = all_more (λ x. le_by cell_cmp x (greatest xs) ≡ true) (λ x. is_ge (cell_cmp (greatest xs) x) ≡ true) (λ x e. at_least (greatest xs) x e) xs (first_bound falling_order xs)
