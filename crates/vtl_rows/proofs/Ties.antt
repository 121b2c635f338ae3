-- Rows that tie by keys agree in their columns, and stand together in order.
use Rattle.std.proofs.Common.{◌≡◌, ℕ, List, [], ◌∷◌, map, true, not, ◌&&◌, refl, sym, ap, ◌∙◌, true≢false}
use Rattle.std.specs.Cmp.{IsTotalOrder, Equal-is}
use Rattle.std.specs.Ordering.{is_lt, is_eq, ordering_then, ordering_reverse}
use Rattle.std.specs.declared.cmp.Ordering.{Ordering}
use Rattle.std.specs.declared.cmp.Ordering.TheVariants.{Less, Equal, Greater}
use Rattle.vtl_lists.specs.Sorting.{le_by}
use Rattle.vtl_cell.specs.Order.{cell_cmp, same_cell}
use Rattle.vtl_cell.specs.Row.{Row, column_of}
use Rattle.vtl_cell.specs.Sorted.{by_keys, rising}
use Rattle.vtl_rows.specs.declared.column.SortKey.{SortKey}
use Rattle.vtl_rows.specs.Keys.{key_of, tie_by, agree}

module _ {X : Type 0} {R : X → X → Ordering} (o : IsTotalOrder R) where
  pub ties_turn : (x y : X) → is_eq (R x y) ≡ is_eq (R y x)
  ties_turn x y = ap is_eq (o.antisymm x y) ∙ turned (R y x)
    where
      turned : (r : Ordering) → is_eq (ordering_reverse r) ≡ is_eq r
      turned Less = refl
      turned Equal = refl
      turned Greater = refl

  -- what lies between two that tie ties with them
  pub ties_between : (x y z : X) → le_by R x y ≡ true → le_by R y z ≡ true → is_eq (R x z) ≡ true → is_eq (R x y) ≡ true
  ties_between x y z e h t =
      let one : R x y ≡ R z y = o.congr x z y ((Equal-is (R x z)).0 t) in
      squeezed (R x y) (R y x) (R z y) (o.antisymm x y) one e h
    where
      squeezed : (p q r : Ordering) → p ≡ ordering_reverse q → p ≡ r → not (is_lt q) ≡ true → not (is_lt r) ≡ true → is_eq p ≡ true
      squeezed Less q r a b e h = absurd (true≢false (sym h ∙ ap (λ k. not (is_lt k)) (sym b)))
      squeezed Equal q r a b e h = refl
      squeezed Greater Less r a b e h = absurd (true≢false (sym e))
      squeezed Greater Equal r a b e h = cc
      squeezed Greater Greater r a b e h = cc

-- ---- ties by rising keys
pub both_tie : (r s : Ordering) → is_eq (ordering_then r s) ≡ (is_eq r && is_eq s)
both_tie Less s = refl
both_tie Equal s = refl
both_tie Greater s = refl

pub ties_agree : (places : List ℕ) (r s : Row) → is_eq (by_keys (map rising places) r s) ≡ agree places r s
ties_agree [] r s = refl
ties_agree (i ∷ is) r s =
    both_tie (cell_cmp (column_of i r) (column_of i s)) (by_keys (map rising is) r s)
    ∙ ap (λ b. same_cell (column_of i r) (column_of i s) && b) (ties_agree is r s)

pub rising_ties : (columns : List ℕ) (keys : List SortKey) → map key_of keys ≡ map rising columns → tie_by keys ≡ agree columns
rising_ties columns keys e = λ i r s. each r s i
  where
    each : (r s : Row) → tie_by keys r s ≡ agree columns r s
    each r s = ap (λ listed. is_eq (by_keys listed r s)) e ∙ ties_agree columns r s
