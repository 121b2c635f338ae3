-- The first value in order, when one is added at the end of a list.
use Rattle.std.proofs.Common.{◌≡◌, List, [], ◌∷◌, ◌++◌, Bool, true, false, not, cond, refl, sym, ap, ◌∙◌, true≢false, ⊎_elim}
use Rattle.std.specs.Prelude.{◌||◌}
use Rattle.std.specs.List.{AllByRecursion}
use Rattle.vtl_lists.specs.Sorting.{IsOrder, insert_by, sorted_by}
use Rattle.vtl_lists.proofs.Perms.{AllByRecursion-Perm, Perm-append_comm, Perm-sym}
use Rattle.vtl_lists.proofs.Sorts.{Perm-sorted_by, sorted_by-Perm}
use Rattle.vtl_cell.specs.declared.cell.Cell.{Cell}
use Rattle.vtl_cell.specs.Kinds.{is_null}
use Rattle.vtl_cell.specs.Row.{column_of}

-- no value is null
abbrev pub NoNulls : List Cell → Type 0
NoNulls xs = AllByRecursion (λ x. is_null x ≡ false) xs

module _ {le : Cell → Cell → Bool} (o : IsOrder le) where
  first_or : (x y : Cell) (ys : List Cell) (b lt : Bool) → le x y ≡ b → le y x ≡ not lt → column_of 0 (cond b (x ∷ y ∷ ys) (y ∷ insert_by le x ys)) ≡ cond lt x y
  first_or x y ys true true e h = refl
  first_or x y ys true false e h = o.antisym x y e h
  first_or x y ys false true e h = ⊎_elim (λ t. absurd (true≢false (sym t ∙ e))) (λ t. absurd (true≢false (sym t ∙ h))) (o.total x y)
  first_or x y ys false false e h = refl

  first_of_inserted : (x : Cell) (ys : List Cell) (lt : Bool) → le (column_of 0 ys) x ≡ not lt → NoNulls ys → column_of 0 (insert_by le x ys) ≡ cond (is_null (column_of 0 ys) || lt) x (column_of 0 ys)
  first_of_inserted x [] lt h all = refl
  first_of_inserted x (y ∷ ys) lt h all = rw all.0 (first_or x y ys (le x y) lt refl h)

  -- the added value is the first where the list was empty or its first comes behind
  pub first_with : (xs : List Cell) (x : Cell) (lt : Bool) → le (column_of 0 (sorted_by le xs)) x ≡ not lt → NoNulls xs → column_of 0 (sorted_by le (xs ++ x ∷ [])) ≡ cond (is_null (column_of 0 (sorted_by le xs)) || lt) x (column_of 0 (sorted_by le xs))
  first_with xs x lt h all =
      ap (column_of 0) (sorted_by-Perm o (Perm-append_comm xs (x ∷ [])))
      ∙ first_of_inserted x (sorted_by le xs) lt h (AllByRecursion-Perm (λ y. is_null y ≡ false) (Perm-sym (Perm-sorted_by o xs)) all)
