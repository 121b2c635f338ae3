-- The text of a data set: in any order of its points, sorted by their identifiers alone, and as a table by the identifiers.
use Rattle.std.proofs.Common.{◌≡◌, ◌+◌, ◌∷◌, ◌++◌, ◌<◌, ◌≤◌, ℕ, List, [], drop, map, flat_map, length, true, ◌&&◌, not, encode_utf8_all, arith, refl, sym, ap, ◌∙◌, subst, true≢false, All}
use Rattle.std.specs.List.{AllByRecursion, range_with_len}
use Rattle.std.specs.Ordering.{is_lt, ordering_then}
use Rattle.std.specs.declared.cmp.Ordering.{Ordering}
use Rattle.std.specs.declared.cmp.Ordering.TheVariants.{Less, Equal, Greater}
use Rattle.std.proofs.lemmas.List.{length-map, map-append}
use Rattle.std.proofs.lemmas.Simd.{map-map}
use Rattle.std.proofs.lemmas.Bool.{and_parts}
use Rattle.csv.specs.Writing.{default_writer, row_text}
use Rattle.vtl_decimal.specs.Settings.{Settings}
use Rattle.vtl_lists.specs.Perm.{Perm}
use Rattle.vtl_lists.specs.Sorting.{le_by, sorted_by}
use Rattle.vtl_cell.specs.Kinds.{is_null, is_of}
use Rattle.vtl_cell.specs.Row.{Row, row_cmp}
use Rattle.vtl_cell.specs.Sorted.{by_keys, rising}
use Rattle.vtl_cell.specs.Writing.{text_of}
use Rattle.vtl_cell.proofs.Rows.{row_order}
use Rattle.vtl_lists.proofs.Sorts.{sorted_by-Perm}
use Rattle.vtl_rows.specs.declared.column.SortKey.{SortKey}
use Rattle.vtl_rows.specs.Keys.{key_of, ordered}
use Rattle.vtl_rows.specs.Tables.{Listed}
use Rattle.vtl_rows.proofs.AllColumns.{all_keys, first_keys, keys_append, sorted_alike}
use Rattle.vtl_tree.specs.DataSet.{is_point}
use Rattle.vtl_tree.specs.Structure.{columns_of, key_width, same_role}
use Rattle.vtl_tree.specs.declared.structure.Component.{Component}
use Rattle.vtl_tree.specs.declared.structure.Role.TheVariants as role
use Rattle.vtl_tree.specs.declared.structure.Structure.{Structure}
use Rattle.vtl_sets.specs.TableOf.{IsTableOf, column_for, table_columns}
use Rattle.vtl_sets.proofs.ColumnLemmas.{few_keys}
use Rattle.vtl_csv.specs.CsvText.{csv_of, csv_rows}
use Rattle.vtl_csv.specs.TableText.{all_places, in_listed_order, rows_text, table_text}
use Rattle.vtl_csv.proofs.TableTextLemmas.{first_keys_within, sorted_by_keys, whole_each}

point_wide : (xs : List Component) (r : Row) → is_point xs r ≡ true → length r ≡ length xs
point_wide [] [] e = refl
point_wide [] (v ∷ vs) e = absurd (true≢false (sym e))
point_wide (x ∷ xs) [] e = absurd (true≢false (sym e))
point_wide (x ∷ xs) (v ∷ vs) e =
    let h = point_wide xs vs (and_parts (is_of x.kind v && not (same_role x.role role.Identifier && is_null v)) (is_point xs vs) e).1 in
    omega (arith, h)

points_wide : (xs : List Component) (rows : List Row) → AllByRecursion (λ r. is_point xs r ≡ true) rows → AllByRecursion (λ r. length r ≡ length xs) rows
points_wide xs [] all = tt
points_wide xs (r ∷ rows) all = (point_wide xs r all.0, points_wide xs rows all.1)

-- the identifiers are columns of the table
pub identifiers_within : (s : Structure) (t : Listed) (keys : List SortKey) → IsTableOf s t → map key_of keys ≡ map rising (range_with_len 0 (key_width s)) → All (λ k. k.column < length t.columns) keys
identifiers_within s t keys is e =
    let l = ap length is.columns ∙ length-map (columns_of s) column_for in
    let few = few_keys s in
    first_keys_within keys (key_width s) (length t.columns) e (omega (arith, l, few))

-- rows below the columns of a data set's table
text_below : (p : Settings) (s : Structure) (t : Listed) (rows : List Row) → t.columns ≡ table_columns s → rows_text p t.columns rows ≡ csv_rows p (columns_of s) rows
text_below p s t rows e =
    ap (λ cs. rows_text p cs rows) e
    ∙ ap (λ names. flat_map (row_text default_writer) (names ∷ map (map (text_of p)) rows)) (map-map (λ c. encode_utf8_all c.name) column_for (columns_of s))

-- the rows in the order of the identifiers, as a data set is written
pub dataset_text_is : (p : Settings) (s : Structure) (t : Listed) (keys : List SortKey) → IsTableOf s t → map key_of keys ≡ map rising (range_with_len 0 (key_width s))
    → rows_text p t.columns (ordered keys t.rows) ≡ csv_of p s t.rows
dataset_text_is p s t keys is e =
    text_below p s t (ordered keys t.rows) is.columns
    ∙ ap (csv_rows p (columns_of s))
    (ap (λ ks. sorted_by (le_by (by_keys ks)) t.rows) e ∙ sorted_by_keys (key_width s) (length (columns_of s)) t.rows (few_keys s) (points_wide (columns_of s) t.rows is.points.typed) is.points.distinct)

-- the points in any order
pub csv_any_order : (p : Settings) (s : Structure) (xs ys : List Row) → Perm xs ys → csv_of p s xs ≡ csv_of p s ys
csv_any_order p s xs ys same = ap (csv_rows p (columns_of s)) (sorted_by-Perm row_order same)

-- ---- a table that is written by the identifiers
then_again : (q r : Ordering) → ordering_then q (ordering_then q r) ≡ ordering_then q r
then_again Less r = refl
then_again Equal r = refl
then_again Greater r = refl

-- by the first columns, and then by all, is by all
first_and_all : (k n : ℕ) (r s : Row) → k ≤ n → length r ≡ n → length s ≡ n → by_keys (map rising (range_with_len 0 k ++ range_with_len 0 n)) r s ≡ row_cmp r s
first_and_all k n r s few h e =
    let ids = map rising (range_with_len 0 k) in
    let hr : 0 + k ≤ length r = omega (arith, few, h) in
    let hs : 0 + k ≤ length s = omega (arith, few, e) in
    let first = first_keys 0 k r s hr hs in
    ap (λ ks. by_keys ks r s) (map-append rising (range_with_len 0 k) (range_with_len 0 n)) ∙ keys_append ids (map rising (range_with_len 0 n)) r s
    ∙ ap (ordering_then (by_keys ids r s)) (all_keys n r s h e ∙ first)
    ∙ then_again (by_keys ids r s) (row_cmp (drop (0 + k) r) (drop (0 + k) s)) ∙ sym first

pub by_identifiers : (p : Settings) (s : Structure) (t : Listed) → IsTableOf s t → table_text p (range_with_len 0 (key_width s)) t ≡ csv_of p s t.rows
by_identifiers p s t is =
    ap (λ rows. rows_text p t.columns (in_listed_order ids t.columns rows)) (whole_each n t.rows wide)
    ∙ ap (rows_text p t.columns) (sorted_alike (λ r. length r ≡ n) (le_by (by_keys (map rising (ids ++ all_places t.columns)))) (le_by row_cmp) alike t.rows wide)
    ∙ text_below p s t (sorted_by (le_by row_cmp) t.rows) is.columns
  where
    n : ℕ
    n = length t.columns

    ids : List ℕ
    ids = range_with_len 0 (key_width s)

    as_many : length (columns_of s) ≡ n
    as_many = sym (ap length is.columns ∙ length-map (columns_of s) column_for)

    wide : AllByRecursion (λ r. length r ≡ n) t.rows
    wide = subst (λ m. AllByRecursion (λ r. length r ≡ m) t.rows) as_many (points_wide (columns_of s) t.rows is.points.typed)

    alike : (x y : Row) → length x ≡ n → length y ≡ n → le_by (by_keys (map rising (ids ++ all_places t.columns))) x y ≡ le_by row_cmp x y
    alike x y h e = let few = few_keys s in ap (λ o. not (is_lt o)) (first_and_all (key_width s) n y x (omega (arith, few, as_many)) e h)
