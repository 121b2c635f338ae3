-- Points that are taken at values of identifiers.
use Rattle.std.proofs.Common.{◌≡◌, ℕ, ◌+◌, ◌<◌, List, [], ◌∷◌, ◌++◌, Bool, true, false, cond, ◌&&◌, length, map, take, get_or, refl, sym, ap, ◌∙◌, subst}
use Rattle.std.specs.List.{AllByRecursion, filter}
use Rattle.std.proofs.lemmas.List.{map-append}
use Rattle.std.proofs.lemmas.List.Elements.{filter_more}
use Rattle.vtl_cell.specs.Row.{Row}
use Rattle.vtl_rows.specs.Tables.{cells_at, fits}
use Rattle.vtl_tree.specs.DataSet.{IsDataSet, is_point}
use Rattle.vtl_tree.specs.Structure.{columns_of}
use Rattle.vtl_tree.specs.declared.structure.Structure.{Structure}
use Rattle.vtl_tree.specs.declared.clauses.SubItem.{SubItem}
use Rattle.vtl_sets.specs.TableOf.{table_columns}
use Rattle.vtl_sets.proofs.TableLemmas.{point_fits}
use Rattle.vtl_tree.specs.Columns.{places_in}
use Rattle.vtl_meaning.specs.Made.{IsSub}
use Rattle.vtl_meaning.specs.Operators.{has_values}
use Rattle.vtl_meaning.specs.Points.{with_points}
use Rattle.vtl_meaning.proofs.Kept.{sub_kept}
use Rattle.vtl_expr.proofs.PointLemmas.{holds_at}
use Rattle.vtl_clause.specs.Pins.{are_met, is_met, wanted_in}

pub met_at : (a : Structure) (items : List SubItem) (r : Row) → are_met (map (wanted_in (columns_of a)) items) r ≡ has_values a items r
met_at a [] r = refl
met_at a (i ∷ items) r = ap (λ b. is_met r (wanted_in (columns_of a) i) && b) (met_at a items r)

pub met_is : (a : Structure) (items : List SubItem) → are_met (map (wanted_in (columns_of a)) items) ≡ has_values a items
met_is a items = λ i r. met_at a items r i

-- what is taken fits the columns
pub sub_fits : (items : List SubItem) (a s : Structure) (d : List Row) (i : ℕ) (r : Row) → IsSub items a s → IsDataSet a d → i < length d → r ≡ get_or d i r → has_values a items r ≡ true → fits (table_columns s) (cells_at (places_in (columns_of a) (columns_of s)) r) ≡ true
sub_fits items a s d i r is h l at has =
    let own = holds_at (λ x. is_point (columns_of a) x ≡ true) d i r h.typed l at in
    let one : IsDataSet a (r ∷ []) = record { well_formed = h.well_formed; typed = (own, tt); distinct = refl } in
    let made = (sub_kept items (with_points a (r ∷ [])) s is one).typed in
    let places = places_in (columns_of a) (columns_of s) in
    let taken : AllByRecursion (λ x. is_point (columns_of s) x ≡ true) (cells_at places r ∷ []) =
    subst (λ b. AllByRecursion (λ x. is_point (columns_of s) x ≡ true) (map (cells_at places) (cond b (r ∷ []) []))) has made in
    point_fits (columns_of s) (cells_at places r) taken.0

map_one : (f : Row → Row) (b : Bool) (r : Row) → map f (cond b (r ∷ []) []) ≡ cond b (f r ∷ []) []
map_one f true r = refl
map_one f false r = refl

pub sub_more : (f : Row → Row) (q : Row → Bool) (rows old new : List Row) (i : ℕ) (r : Row) → i < length rows → r ≡ get_or rows i r → old ≡ map f (filter q (take i rows)) → new ≡ old ++ cond (q r) (f r ∷ []) [] → new ≡ map f (filter q (take (i + 1) rows))
sub_more f q rows old new i r h at o n =
    let before = filter q (take i rows) in
    n ∙ ap (λ l. l ++ cond (q r) (f r ∷ []) []) o ∙ ap (λ l. map f before ++ l) (sym (map_one f (q r) r)) ∙ sym (map-append f before (cond (q r) (r ∷ []) []))
    ∙ ap (λ x. map f (before ++ cond (q x) (x ∷ []) [])) at ∙ ap (map f) (sym (filter_more q rows i r h))
