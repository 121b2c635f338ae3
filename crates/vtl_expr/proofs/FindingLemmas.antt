-- Points that are found by their first cells.
use Rattle.std.proofs.Common.{◌≡◌, ℕ, ◌<◌, ◌≤◌, List, [], ◌∷◌, true, cond, find, length, take, get_or, None, Some, refl, sym, ap, ◌∙◌, subst}
use Rattle.std.specs.Prelude.{slice_get}
use Rattle.std.specs.List.{position_or_len}
use Rattle.std.proofs.lemmas.List.Folds.{find_at}
use Rattle.std.proofs.lemmas.Option.{slice_get-get_or, slice_get_past}
use Rattle.vtl_lists.proofs.Alls.{all_more}
use Rattle.vtl_cell.specs.Row.{Row, same_row}
use Rattle.vtl_rows.specs.Tables.{cells_at}
use Rattle.vtl_tree.specs.DataSet.{IsDataSet, is_point, look}
use Rattle.vtl_tree.specs.Structure.{columns_of, key_width}
use Rattle.vtl_tree.specs.declared.structure.Structure.{Structure}
use Rattle.vtl_tree.specs.Columns.{identifiers_of, places_in}
use Rattle.vtl_meaning.proofs.Places.{key_cells, key_within}
use Rattle.vtl_expr.specs.Partners.{AreFirst}

-- the first point whose cells at these columns are sought is the one that a look-up gives
module _ (own : List ℕ) (n : ℕ) (k : Row) where
  looked_for : (points : List Row) → AreFirst own n points → look n points k ≡ find (λ r. same_row (cells_at own r) k) points
  looked_for [] first = refl
  looked_for (r ∷ rs) first =
      ap (λ x. cond (same_row x k) (Some r) (look n rs k)) (sym first.0) ∙ ap (cond (same_row (cells_at own r) k) (Some r)) (looked_for rs first.1)

  abbrev place_of : List Row → ℕ
  place_of points = position_or_len (λ r. same_row (cells_at own r) k) points

  module _ (points : List Row) (first : AreFirst own n points) (place : ℕ) (at : place ≡ place_of points) where
    pub found_there : place < length points → (r : Row) → r ≡ get_or points place r → Some r ≡ look n points k
    found_there h r is =
        ap Some is ∙ sym (slice_get-get_or points place r h) ∙ ap (slice_get points) at ∙ sym (find_at (λ x. same_row (cells_at own x) k) points) ∙ sym (looked_for points first)

    pub found_nowhere : length points ≤ place → None ≡ look n points k
    found_nowhere h = sym (slice_get_past points place h) ∙ ap (slice_get points) at ∙ sym (find_at (λ x. same_row (cells_at own x) k) points) ∙ sym (looked_for points first)

-- the identifiers of points are their first cells
identifiers_first : (s : Structure) (points : List Row) → IsDataSet s points → AreFirst (places_in (columns_of s) (identifiers_of s)) (key_width s) points
identifiers_first s points d =
    all_more (λ r. is_point (columns_of s) r ≡ true) (λ r. cells_at (places_in (columns_of s) (identifiers_of s)) r ≡ take (key_width s) r)
    (λ r h. key_cells s s r d.well_formed (refl, refl) (key_within s r h)) points d.typed

-- so they are where a seeker looks for them
pub seeks_first : (s : Structure) (points : List Row) (own asked : List ℕ) (rows : List Row) → own ≡ places_in (columns_of s) (identifiers_of s) → length asked ≡ key_width s → rows ≡ points → IsDataSet s points → AreFirst own (length asked) rows
seeks_first s points own asked rows e f g d =
    subst (λ l. AreFirst l (length asked) rows) (sym e)
    (subst (λ n. AreFirst (places_in (columns_of s) (identifiers_of s)) n rows) (sym f) (subst (AreFirst (places_in (columns_of s) (identifiers_of s)) (key_width s)) (sym g) (identifiers_first s points d)))
