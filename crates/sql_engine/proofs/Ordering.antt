-- Tables in the order of an export.
use Rattle.std.proofs.Common.{◌≡◌, ◌+◌, ◌<◌, ◌≤◌, ℕ, zero, suc, Bool, true, false, cond, not, List, [], ◌∷◌, ◌++◌, map, length, get_or, Some, IsSome, refl, sym, ap, ◌∙◌, subst, arith, below_more}
use Rattle.std.specs.Prelude.{All}
use Rattle.std.specs.List.{AllByRecursion, position_or_len, range_with_len}
use Rattle.std.specs.Map.{keys_of}
use Rattle.std.proofs.lemmas.List.{append-nil, length-map}
use Rattle.std.proofs.lemmas.List.Sums.{position_or_len_is}
use Rattle.vtl_lists.proofs.Alls.{all_append, all_get}
use Rattle.vtl_cell.specs.Sorted.{rising}
use Rattle.vtl_text.specs.Texts.{same_text}
use Rattle.vtl_rows.specs.Keys.{key_of, ordered}
use Rattle.vtl_rows.specs.Tables.{Listed}
use Rattle.vtl_rows.specs.declared.column.Column.{Column}
use Rattle.vtl_rows.specs.declared.column.SortKey.{SortKey}
use Rattle.sql_tree.specs.Trees.{Text}
use Rattle.sql_check_parts.specs.Scopes.{Columns, value_among}
use Rattle.sql_check_laws.specs.Statements.{AreNames}
use Rattle.sql_meaning.specs.Scripts.{sort_key}
use Rattle.sql_meaning.specs.Tables.{column_entry}
use Rattle.vtl_rows.proofs.AllColumns.{all_columns_last}
use Rattle.sql_engine.specs.Exported.{ordered_by}

-- ---- places of columns
abbrev pub names_of : List Column → List Text
names_of columns = keys_of (map column_entry columns)

many_names : (columns : List Column) → length (names_of columns) ≡ length columns
many_names [] = refl
many_names (x ∷ columns) = ap suc (many_names columns)

name_at : (columns : List Column) (i : ℕ) (x : Column) (d : Text) → i < length columns → x ≡ get_or columns i x → get_or (names_of columns) i d ≡ x.name
name_at [] i x d h e = absurd (omega arith)
name_at (y ∷ columns) zero x d h e = ap (λ z. z.name) (sym e)
name_at (y ∷ columns) (suc i) x d h e = name_at columns i x d (omega (arith, h)) e

pub place_here : (name : Text) (columns : List Column) (i : ℕ) (x : Column) → i < length columns → x ≡ get_or columns i x → ((k : ℕ) → k < i → same_text name (get_or (names_of columns) k name) ≡ false) → same_text name x.name ≡ true → i ≡ position_or_len (same_text name) (names_of columns)
place_here name columns i x h e before here =
    let many = many_names columns in
    sym (position_or_len_is (same_text name) (names_of columns) i name (omega (arith, many, h)) before (λ within. ap (same_text name) (name_at columns i x name h e) ∙ here))

pub place_more : (name : Text) (columns : List Column) (i : ℕ) (x : Column) → i < length columns → x ≡ get_or columns i x → ((k : ℕ) → k < i → same_text name (get_or (names_of columns) k name) ≡ false) → same_text name x.name ≡ false
    → (k : ℕ) → k < i + 1 → same_text name (get_or (names_of columns) k name) ≡ false
place_more name columns i x h e before here = below_more (λ k. same_text name (get_or (names_of columns) k name) ≡ false) i before (ap (same_text name) (name_at columns i x name h e) ∙ here)

pub place_nowhere : (name : Text) (columns : List Column) (i : ℕ) → length columns ≡ i → ((k : ℕ) → k < i → same_text name (get_or (names_of columns) k name) ≡ false) → length columns ≡ position_or_len (same_text name) (names_of columns)
place_nowhere name columns i e before =
    let many = many_names columns in
    sym (position_or_len_is (same_text name) (names_of columns) (length columns) name (omega (arith, many)) (λ k h. before k (omega (arith, e, h))) (λ within. absurd (omega (arith, many, within))))

-- ---- keys of columns that there are
found_within : (name : Text) (columns : Columns) → IsSome (value_among columns name) → position_or_len (same_text name) (keys_of columns) < length columns
found_within name [] h = cc
found_within name (x ∷ columns) h = go (same_text name x.0) (found_within name columns) h
  where
    n : ℕ
    n = position_or_len (same_text name) (keys_of columns)

    go : (b : Bool) → (IsSome (value_among columns name) → n < length columns) → IsSome (cond b (Some x.1) (value_among columns name)) → cond (not b) (1 + n) 0 < suc (length columns)
    go true ih h = omega arith
    go false ih h = let q = ih h in omega (arith, q)

listed_within : (columns : Columns) (names : List Text) → AllByRecursion (λ name. IsSome (value_among columns name)) names → AllByRecursion (λ q. q.place < length columns) (map (sort_key columns) names)
listed_within columns [] h = tt
listed_within columns (name ∷ names) h = (found_within name columns h.0, listed_within columns names h.1)

first_within : (n a m : ℕ) → a + m ≤ n → AllByRecursion (λ q. q.place < n) (map rising (range_with_len a m))
first_within n a zero h = tt
first_within n a (suc m) h = (omega (arith, h), first_within n (a + 1) m (omega (arith, h)))

keys_from : (n : ℕ) (keys : List SortKey) → AllByRecursion (λ q. q.place < n) (map key_of keys) → AllByRecursion (λ k. k.column < n) keys
keys_from n [] h = tt
keys_from n (k ∷ keys) h = (h.0, keys_from n keys h.1)

pub keys_within : (keys : List SortKey) (columns : List Column) (names : List Text) → AreNames (map column_entry columns) names
    → map key_of keys ≡ map (sort_key (map column_entry columns)) names ++ map rising (range_with_len 0 (length columns)) → All (λ k. k.column < length columns) keys
keys_within keys columns names h e =
    let n = length columns in
    let many : length (map column_entry columns) ≡ n = length-map columns column_entry in
    let listed = subst (λ (m : ℕ). AllByRecursion (λ q. q.place < m) (map (sort_key (map column_entry columns)) names)) many (listed_within (map column_entry columns) names h.1) in
    let all = all_append (λ q. q.place < n) (map (sort_key (map column_entry columns)) names) (map rising (range_with_len 0 n)) listed (first_within n 0 n (omega arith)) in
    let each = keys_from n keys (subst (AllByRecursion (λ q. q.place < n)) (sym e) all) in
    λ k d within. all_get (λ x. x.column < n) keys k d within each

-- ---- rows in order

pub table_ordered : (t now : Listed) (keys : List SortKey) (names : List Text) → map key_of keys ≡ map (sort_key (map column_entry t.columns)) names ++ map rising (range_with_len 0 (length t.columns)) → All (λ r. length r ≡ length t.columns) t.rows
    → now.columns ≡ t.columns → now.rows ≡ ordered keys t.rows → now ≡ ordered_by names t
table_ordered t now keys names e wide columns rows =
    let first = map (sort_key (map column_entry t.columns)) names in
    let sorted = all_columns_last keys first [] (length t.columns) t.rows (e ∙ ap (λ l. l ++ map rising (range_with_len 0 (length t.columns))) (sym (append-nil first))) wide in
    λ i. record { columns = columns i; rows = (rows ∙ sorted) i }
