-- The rows of a table in the order in which they are written.
use Rattle.std.proofs.Common.{◌≡◌, ℕ, zero, suc, ◌+◌, ◌<◌, ◌≤◌, List, [], ◌∷◌, ◌++◌, map, length, get_or, take, drop, Bool, true, false, not, arith, refl, sym, ap, ◌∙◌, subst, true≢false, All}
use Rattle.std.specs.List.{AllByRecursion, range_with_len}
use Rattle.std.specs.Ordering.{is_lt, is_eq, ordering_then}
use Rattle.std.specs.declared.cmp.Ordering.{Ordering}
use Rattle.std.specs.declared.cmp.Ordering.TheVariants.{Less, Equal, Greater}
use Rattle.std.proofs.Math.Seq.{drop-cons}
use Rattle.std.proofs.lemmas.List.{length-map, get_or-map, map-append}
use Rattle.std.proofs.lemmas.List.Elements.{All-append, recursion_from_All}
use Rattle.vtl_decimal.specs.Settings.{Settings}
use Rattle.vtl_lists.specs.Apart.{all_apart}
use Rattle.vtl_lists.specs.Sorting.{insert_by, le_by, sorted_by}
use Rattle.vtl_lists.proofs.Aparts.{apart_parts}
use Rattle.vtl_lists.proofs.Perms.{AllByRecursion-Perm, Perm-sym}
use Rattle.vtl_lists.proofs.Sorts.{Perm-sorted_by}
use Rattle.vtl_lists.proofs.Filters.{first_within}
use Rattle.vtl_cell.specs.declared.cell.Cell.TheVariants as c
use Rattle.vtl_cell.specs.Row.{Row, column_of, row_cmp, same_key, same_row}
use Rattle.vtl_cell.specs.Sorted.{by_keys, rising}
use Rattle.vtl_cell.proofs.Rows.{row_order, same_key-sym}
use Rattle.vtl_rows.specs.declared.column.Column.{Column}
use Rattle.vtl_rows.specs.declared.column.SortKey.{SortKey}
use Rattle.vtl_rows.specs.Keys.{agree, key_of, ordered}
use Rattle.vtl_rows.specs.Tables.{Listed, cells_at}
use Rattle.vtl_rows.proofs.AllColumns.{first_keys}
use Rattle.vtl_rows.proofs.Ties.{ties_agree}
use Rattle.vtl_rows.proofs.PlacesStay.{cells_stay}
use Rattle.vtl_csv.specs.TableText.{all_places, in_listed_order, rows_text, table_text, whole_rows}

-- ---- all cells of a row
pub whole_each : (n : ℕ) (rows : List Row) → AllByRecursion (λ r. length r ≡ n) rows → map (cells_at (range_with_len 0 n)) rows ≡ rows
whole_each n [] all = refl
whole_each n (r ∷ rows) all = ap (λ x. x ∷ map (cells_at (range_with_len 0 n)) rows) (cells_stay n r all.0) ∙ ap (λ l. r ∷ l) (whole_each n rows all.1)

whole_is : (columns : List Column) (rows : List Row) → All (λ r. length r ≡ length columns) rows → whole_rows columns rows ≡ rows
whole_is columns rows wide = whole_each (length columns) rows (recursion_from_All (λ r. length r ≡ length columns) rows wide)

-- ---- keys by their places
key_places : (keys : List SortKey) (places : List ℕ) (n k : ℕ) (d : SortKey) → map key_of keys ≡ map rising places → All (λ i. i < n) places → k < length keys → (get_or keys k d).column < n
key_places keys places n k d e all h =
    let l : length keys ≡ length places = sym (length-map keys key_of) ∙ ap length e ∙ length-map places rising in
    let at : k < length places = omega (arith, l, h) in
    let same : key_of (get_or keys k d) ≡ rising (get_or places k 0) = sym (get_or-map key_of keys k d (key_of d) h) ∙ ap (λ m. get_or m k (key_of d)) e ∙ get_or-map rising places k 0 (key_of d) at in
    subst (λ i. i < n) (sym (ap (λ x. x.place) same)) (all k 0 at)

-- keys of columns that there are
keys_within : (keys : List SortKey) (places : List ℕ) (n : ℕ) → map key_of keys ≡ map rising places → All (λ i. i < n) places → All (λ k. k.column < n) keys
keys_within keys places n e all k d h = key_places keys places n k d e all h

-- the keys of all places are those of columns that there are
pub first_keys_within : (keys : List SortKey) (m n : ℕ) → map key_of keys ≡ map rising (range_with_len 0 m) → m ≤ n → All (λ k. k.column < n) keys
first_keys_within keys m n e h =
    keys_within keys (range_with_len 0 m) n e (λ k d within. let i = first_within m k d within in omega (arith, i, h))

pub listed_keys_within : (keys : List SortKey) (listed : List ℕ) (columns : List Column) → map key_of keys ≡ map rising (listed ++ all_places columns) → All (λ i. i < length columns) listed → All (λ k. k.column < length columns) keys
listed_keys_within keys listed columns e all =
    keys_within keys (listed ++ all_places columns) (length columns) e (All-append (λ i. i < length columns) listed (all_places columns) all (first_within (length columns)))

-- listed columns and then the first ones, as keys
pub keys_behind : (none one both : List SortKey) (listed : List ℕ) (n : ℕ) → none ≡ [] → map key_of one ≡ map key_of none ++ map rising listed → map key_of both ≡ map key_of one ++ map rising (range_with_len 0 n)
    → map key_of both ≡ map rising (listed ++ range_with_len 0 n)
keys_behind none one both listed n e f g =
    g ∙ ap (λ l. l ++ map rising (range_with_len 0 n)) (f ∙ ap (λ l. map key_of l ++ map rising listed) e) ∙ sym (map-append rising listed (range_with_len 0 n))

-- the rows in the order of such keys, as a table is written
pub table_text_is : (p : Settings) (listed : List ℕ) (t : Listed) (keys : List SortKey) → map key_of keys ≡ map rising (listed ++ all_places t.columns) → All (λ r. length r ≡ length t.columns) t.rows
    → rows_text p t.columns (ordered keys t.rows) ≡ table_text p listed t
table_text_is p listed t keys e wide =
    ap (λ ks. rows_text p t.columns (sorted_by (le_by (by_keys ks)) t.rows)) e
    ∙ ap (λ rows. rows_text p t.columns (in_listed_order listed t.columns rows)) (sym (whole_is t.columns t.rows wide))

-- ---- the first columns, and then the others
decided : (p q : Ordering) → is_eq p ≡ false → is_lt (ordering_then p q) ≡ is_lt p
decided Less q e = refl
decided Equal q e = absurd (true≢false e)
decided Greater q e = refl

front_from : (a n : ℕ) (r : Row) → a + n ≤ length r → cells_at (range_with_len a n) r ≡ take n (drop a r)
front_from a zero r h = refl
front_from a (suc n) r h =
    let hr : a < length r = omega arith in
    let up : suc a ≡ a + 1 = omega arith in
    ap (λ l. column_of a r ∷ l) (front_from (a + 1) n r (omega (arith, h)) ∙ ap (λ i. take n (drop i r)) (sym up)) ∙ ap (take (suc n)) (sym (drop-cons r a c.Null hr))

-- rows that differ in the first columns are in order by these as they are by all
first_decide : (n : ℕ) (r s : Row) → n ≤ length r → n ≤ length s → same_key n r s ≡ false → le_by (by_keys (map rising (range_with_len 0 n))) r s ≡ le_by row_cmp r s
first_decide n r s h k e =
    let zr : 0 + n ≤ length r = omega arith in
    let zs : 0 + n ≤ length s = omega arith in
    let fronts : agree (range_with_len 0 n) s r ≡ same_key n s r = ap (λ x. same_row x (cells_at (range_with_len 0 n) r)) (front_from 0 n s zs) ∙ ap (same_row (take n s)) (front_from 0 n r zr) in
    let differ : is_eq (by_keys (map rising (range_with_len 0 n)) s r) ≡ false = ties_agree (range_with_len 0 n) s r ∙ fronts ∙ same_key-sym n s r ∙ e in
    ap not (sym (ap is_lt (first_keys 0 n s r zs zr) ∙ decided (by_keys (map rising (range_with_len 0 n)) s r) (row_cmp (drop (0 + n) s) (drop (0 + n) r)) differ))

-- ---- two orders that agree on all pairs of a list
module _ (le : Row → Row → Bool) where
  abbrev SameAsRows : List Row → Type 0
  SameAsRows [] = Unit {0}
  SameAsRows (x ∷ xs) = AllByRecursion (λ y. le x y ≡ le_by row_cmp x y) xs × SameAsRows xs

  insert_same : (x : Row) (ys : List Row) → AllByRecursion (λ y. le x y ≡ le_by row_cmp x y) ys → insert_by le x ys ≡ insert_by (le_by row_cmp) x ys
  insert_same x [] all = refl
  insert_same x (y ∷ ys) all = rw (all.0, insert_same x ys all.1) refl

  sorted_same : (xs : List Row) → SameAsRows xs → sorted_by le xs ≡ sorted_by (le_by row_cmp) xs
  sorted_same [] all = refl
  sorted_same (x ∷ xs) all =
      ap (insert_by le x) (sorted_same xs all.1)
      ∙ insert_same x (sorted_by (le_by row_cmp) xs) (AllByRecursion-Perm (λ y. le x y ≡ le_by row_cmp x y) (Perm-sym (Perm-sorted_by row_order xs)) all.0)

-- ---- rows with distinct keys
wide_enough : (n w : ℕ) (rows : List Row) → n ≤ w → AllByRecursion (λ r. length r ≡ w) rows → AllByRecursion (λ r. n ≤ length r) rows
wide_enough n w [] h all = tt
wide_enough n w (r ∷ rows) h all = let e : length r ≡ w = all.0 in (omega (arith, e, h), wide_enough n w rows h all.1)

decide_each : (n : ℕ) (x : Row) (ys : List Row) → n ≤ length x → AllByRecursion (λ r. n ≤ length r) ys → AllByRecursion (λ y. same_key n x y ≡ false) ys
    → AllByRecursion (λ y. le_by (by_keys (map rising (range_with_len 0 n))) x y ≡ le_by row_cmp x y) ys
decide_each n x [] h wide differ = tt
decide_each n x (y ∷ ys) h wide differ = (first_decide n x y h wide.0 differ.0, decide_each n x ys h wide.1 differ.1)

decide_all : (n : ℕ) (rows : List Row) → AllByRecursion (λ r. n ≤ length r) rows → all_apart (same_key n) rows ≡ true → SameAsRows (le_by (by_keys (map rising (range_with_len 0 n)))) rows
decide_all n [] wide distinct = tt
decide_all n (x ∷ xs) wide distinct =
    let parts = apart_parts (same_key n) x xs distinct in
    (decide_each n x xs wide.0 wide.1 parts.0, decide_all n xs wide.1 parts.1)

-- are sorted by their keys alone
pub sorted_by_keys : (n w : ℕ) (rows : List Row) → n ≤ w → AllByRecursion (λ r. length r ≡ w) rows → all_apart (same_key n) rows ≡ true
    → sorted_by (le_by (by_keys (map rising (range_with_len 0 n)))) rows ≡ sorted_by (le_by row_cmp) rows
sorted_by_keys n w rows h wide distinct =
    sorted_same (le_by (by_keys (map rising (range_with_len 0 n)))) rows (decide_all n rows (wide_enough n w rows h wide) distinct)
