-- What `exists_in` makes of rows.
use Rattle.std.proofs.Common.{◌≡◌, ℕ, ◌<◌, List, [], ◌∷◌, ◌++◌, Bool, true, cond, map, length, get_or, refl, sym, ap, ◌∙◌, subst}
use Rattle.std.specs.List.{AllByRecursion, flat_map, list_any, range_with_len}
use Rattle.vtl_lists.proofs.Alls.{all_more}
use Rattle.vtl_lists.proofs.Filters.{find_any}
use Rattle.vtl_cell.specs.Row.{Row, same_row}
use Rattle.vtl_cell.specs.declared.cell.Cell.TheVariants as c
use Rattle.vtl_rows.specs.Tables.{cells_at, fits}
use Rattle.vtl_rows.specs.declared.column.Column.{Column}
use Rattle.vtl_index.specs.Seekers.{Sought, is_any_meant}
use Rattle.vtl_syntax.specs.declared.word_groups.Retain.{Retain}
use Rattle.vtl_tree.specs.DataSet.{IsDataSet, is_point}
use Rattle.vtl_tree.specs.Environment.{DataSet}
use Rattle.vtl_tree.specs.Structure.{columns_of, key_width}
use Rattle.vtl_tree.specs.declared.structure.Structure.{Structure}
use Rattle.vtl_tuples.proofs.Lists.{flat_map_same}
use Rattle.vtl_sets.specs.TableOf.{table_columns}
use Rattle.vtl_sets.proofs.TableLemmas.{point_fits}
use Rattle.vtl_tree.specs.Columns.{common_identifiers}
use Rattle.vtl_meaning.specs.Agreement.{agree_in, has_agreeing, key_of}
use Rattle.vtl_meaning.specs.Made.{IsExistence}
use Rattle.vtl_meaning.specs.Points.{with_points}
use Rattle.vtl_meaning.specs.Sets.{existence_of, is_retained, with_answer}
use Rattle.vtl_meaning.proofs.LookUps.{named_cells}
use Rattle.vtl_meaning.proofs.Places.{key_within}
use Rattle.vtl_meaning.proofs.SetsKept.{existence_kept}
use Rattle.vtl_expr.proofs.PointLemmas.{holds_at}
use Rattle.vtl_combine.specs.Existence.{answered, sought_common}
use Rattle.vtl_combine.proofs.ChosenLemmas.{taken_where}
use Rattle.vtl_index.proofs.FirstRows.{first_cells}

-- the answer
pub agreeing_is : (a : Structure) (e : DataSet) (r : Row) → is_any_meant (sought_common a e) r ≡ has_agreeing a e r
agreeing_is a e r =
    let common = common_identifiers a e.structure in
    sym (find_any (agree_in a e.structure r) e.points
    ∙ ap (λ (f : Row → Bool). list_any f e.points) (λ j q. same_row (sym (named_cells (columns_of e.structure) common q) j) (sym (named_cells (columns_of a) common r) j)))

-- the identifiers of a point, which are its first cells
pub own_key : (a : Structure) (r : Row) → is_point (columns_of a) r ≡ true → cells_at (range_with_len 0 (key_width a)) r ≡ key_of a r
own_key a r h = first_cells (key_width a) r (key_within a r h)

pub existence_is : (d e : DataSet) (kept : Retain) → AllByRecursion (λ r. is_point (columns_of d.structure) r ≡ true) d.points
    → flat_map (λ r. answered kept (range_with_len 0 (key_width d.structure)) r (is_any_meant (sought_common d.structure e) r)) d.points ≡ existence_of d e kept
existence_is d e kept typed =
    let a = d.structure in
    let ids = range_with_len 0 (key_width a) in
    let test : Row → Bool = λ r. is_retained kept (has_agreeing a e r) in
    flat_map_same (λ r. answered kept ids r (is_any_meant (sought_common a e) r)) (λ r. cond (test r) (with_answer a e r ∷ []) []) d.points
    (all_more (λ r. is_point (columns_of a) r ≡ true) (λ r. answered kept ids r (is_any_meant (sought_common a e) r) ≡ cond (test r) (with_answer a e r ∷ []) [])
    (λ r h. ap (answered kept ids r) (agreeing_is a e r) ∙ ap (λ k. cond (test r) ((k ++ c.Bool (has_agreeing a e r) ∷ []) ∷ []) []) (own_key a r h)) d.points typed)
    ∙ taken_where test (with_answer a e) d.points

-- what is made of a point fits the columns
pub answer_fits : (d : DataSet) (e : DataSet) (kept : Retain) (s : Structure) (rows : List Row) (i : ℕ) (r : Row) → IsExistence d.structure e.structure s → IsDataSet d.structure rows → i < length rows → r ≡ get_or rows i r
    → is_retained kept (is_any_meant (sought_common d.structure e) r) ≡ true → fits (table_columns s) (cells_at (range_with_len 0 (key_width d.structure)) r ++ c.Bool (is_any_meant (sought_common d.structure e) r) ∷ []) ≡ true
answer_fits d e kept s rows i r is h l at has =
    let a = d.structure in
    let own = holds_at (λ x. is_point (columns_of a) x ≡ true) rows i r h.typed l at in
    let one : IsDataSet a (r ∷ []) = record { well_formed = h.well_formed; typed = (own, tt); distinct = refl } in
    let made = (existence_kept (with_points a (r ∷ [])) e kept s is one).typed in
    let answer = has_agreeing a e r in
    let retained : is_retained kept answer ≡ true = ap (is_retained kept) (sym (agreeing_is a e r)) ∙ has in
    let taken : AllByRecursion (λ x. is_point (columns_of s) x ≡ true) (with_answer a e r ∷ []) =
    subst (λ b. AllByRecursion (λ x. is_point (columns_of s) x ≡ true) (map (with_answer a e) (cond b (r ∷ []) []))) retained made in
    ap (λ b. fits (table_columns s) (cells_at (range_with_len 0 (key_width a)) r ++ c.Bool b ∷ [])) (agreeing_is a e r)
    ∙ ap (λ k. fits (table_columns s) (k ++ c.Bool answer ∷ [])) (own_key a r own) ∙ point_fits (columns_of s) (with_answer a e r) taken.0

pub answer_fits_at : (d e : DataSet) (kept : Retain) (s : Structure) (rows : List Row) (i : ℕ) (r : Row) (columns : List Column) (identifiers : List ℕ) (x : Sought) (answer : Bool)
    → IsExistence d.structure e.structure s → IsDataSet d.structure rows → i < length rows → r ≡ get_or rows i r → columns ≡ table_columns s → identifiers ≡ range_with_len 0 (key_width d.structure) → x ≡ sought_common d.structure e → answer ≡ is_any_meant x r → is_retained kept answer ≡ true
    → fits columns (cells_at identifiers r ++ c.Bool answer ∷ []) ≡ true
answer_fits_at d e kept s rows i r columns identifiers x answer is h l at cs ids found same has =
    let ours = is_any_meant (sought_common d.structure e) r in
    let one : answer ≡ ours = same ∙ ap (λ (y : Sought). is_any_meant y r) found in
    ap (λ (l : List Column). fits l (cells_at identifiers r ++ c.Bool answer ∷ [])) cs ∙ ap (λ ps. fits (table_columns s) (cells_at ps r ++ c.Bool answer ∷ [])) ids
    ∙ ap (λ b. fits (table_columns s) (cells_at (range_with_len 0 (key_width d.structure)) r ++ c.Bool b ∷ [])) one
    ∙ answer_fits d e kept s rows i r is h l at (ap (is_retained kept) (sym one) ∙ has)
