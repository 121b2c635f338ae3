-- The places of the columns of the source of EXISTS, by their names.
use Rattle.std.proofs.Common.{◌≡◌, ℕ, zero, suc, ◌+◌, ◌<◌, Bool, true, false, cond, not, List, [], ◌∷◌, ◌++◌, map, length, get_or, take, Option, Some, None, refl, sym, ap, ◌∙◌, subst, arith}
use Rattle.std.specs.Prelude.{option_and_then, unwrap_or}
use Rattle.std.specs.List.{fold}
use Rattle.std.specs.Map.{keys_of}
use Rattle.std.proofs.lemmas.List.{append-nil, length-map}
use Rattle.std.proofs.lemmas.List.Sums.{fold_more}
use Rattle.vtl_text.specs.Texts.{same_text}
use Rattle.vtl_cell.specs.declared.kind.Kind.{Kind}
use Rattle.sql_tree.specs.Trees.{Text}
use Rattle.sql_tree.specs.declared.parts.Column.{Column}
use Rattle.sql_tree.specs.declared.parts.Series.{Series}
use Rattle.sql_check_parts.specs.Scopes.{Columns, Named, add_column, columns_within, is_among, numbered, or_null, row_of, series_names, value_among}
use Rattle.sql_meaning.specs.Tables.{place_among}
use Rattle.sql_meaning.specs.Values.{inner_scope, place_in}
use Rattle.sql_from.specs.Columns.{and_number}

-- ---- numbers

numbers_behind : (i : ℕ) (columns : Columns) (name : Text) (kind : Kind) → numbered i (columns ++ (name, kind) ∷ []) ≡ numbered i columns ++ (name, i + length columns) ∷ []
numbers_behind i [] name kind = let e : i ≡ i + 0 = omega arith in ap (λ n. (name, n) ∷ []) e
numbers_behind i (x ∷ xs) name kind =
    let e : suc i + length xs ≡ i + suc (length xs) = omega arith in
    ap (λ l. (x.0, i) ∷ l) (numbers_behind (suc i) xs name kind ∙ ap (λ n. numbered (suc i) xs ++ (name, n) ∷ []) e)

number_keys : (i : ℕ) (columns : Columns) → keys_of (numbered i columns) ≡ keys_of columns
number_keys i [] = refl
number_keys i (x ∷ xs) = ap (λ l. x.0 ∷ l) (number_keys (suc i) xs)

pub number_count : (i : ℕ) (columns : Columns) → length (numbered i columns) ≡ length columns
number_count i [] = refl
number_count i (x ∷ xs) = ap suc (number_count (suc i) xs)

number_added : (columns : Columns) (name : Text) (kind : Kind) → and_number (numbered 0 columns) name ≡ numbered 0 (add_column columns name kind)
number_added columns name kind =
    (λ i. cond (is_among name (number_keys 0 columns i)) (numbered 0 columns) (numbered 0 columns ++ (name, number_count 0 columns i) ∷ []))
    ∙ go (is_among name (keys_of columns))
  where
    go : (b : Bool) → cond b (numbered 0 columns) (numbered 0 columns ++ (name, length columns) ∷ []) ≡ numbered 0 (cond b columns (columns ++ (name, kind) ∷ []))
    go true = refl
    go false =
        let many : length columns ≡ 0 + length columns = omega arith in
        ap (λ n. numbered 0 columns ++ (name, n) ∷ []) many ∙ sym (numbers_behind 0 columns name kind)

names_numbered : (table done : Columns) (names : List Text) → fold and_number (numbered 0 done) names ≡ numbered 0 (fold (λ columns name. add_column columns name (or_null (value_among table name))) done names)
names_numbered table done [] = refl
names_numbered table done (name ∷ names) =
    ap (λ named. fold and_number named names) (number_added done name (or_null (value_among table name)))
    ∙ names_numbered table (add_column done name (or_null (value_among table name))) names

-- the names of a SERIES, each once, have the numbers of its columns
pub series_numbered : (table : Columns) (s : Series) → fold and_number [] (series_names s) ≡ numbered 0 (columns_within table (Some s))
series_numbered table s = names_numbered table [] (series_names s)

-- one name more
pub numbers_more : (names : List Text) (i : ℕ) (name : Text) (before after : Named ℕ) → i < length names → name ≡ get_or names i name → before ≡ fold and_number [] (take i names) → after ≡ and_number before name → after ≡ fold and_number [] (take (i + 1) names)
numbers_more names i name before after h is so_far more = more ∙ (λ k. and_number (so_far k) (is k)) ∙ sym (fold_more and_number [] names i name h)

-- ---- places

place_from : (i : ℕ) (columns : Columns) (name : Text) → unwrap_or (value_among (numbered i columns) name) (i + length columns) ≡ i + place_among columns name
place_from i [] name = refl
place_from i (x ∷ xs) name = go (same_text name x.0) (place_from (suc i) xs name)
  where
    go : (b : Bool) → unwrap_or (value_among (numbered (suc i) xs) name) (suc i + length xs) ≡ suc i + place_among xs name
        → unwrap_or (cond b (Some i) (value_among (numbered (suc i) xs) name)) (i + suc (length xs)) ≡ i + cond (not b) (1 + place_among xs name) 0
    go true ih = let e : i ≡ i + 0 = omega arith in e
    go false ih =
        let long : i + suc (length xs) ≡ suc i + length xs = omega arith in
        let far : suc i + place_among xs name ≡ i + (1 + place_among xs name) = omega arith in
        ap (unwrap_or (value_among (numbered (suc i) xs) name)) long ∙ ih ∙ far

-- the number of a name, or how many there are
pub number_is : (columns : Columns) (name : Text) → unwrap_or (value_among (numbered 0 columns) name) (length columns) ≡ place_among columns name
number_is columns name =
    let many : length columns ≡ 0 + length columns = omega arith in
    let place : 0 + place_among columns name ≡ place_among columns name = omega arith in
    ap (unwrap_or (value_among (numbered 0 columns) name)) many ∙ place_from 0 columns name ∙ place

-- the place of a column in a row of the source of EXISTS
module _ (alias : Text) (x : Column) where
  abbrev place_alone : Option Columns → ℕ
  place_alone known = place_in (inner_scope (record { alias = alias; columns = known })) x

  alone_wide : (columns : Columns) → length (row_of {V = Kind} ((alias, columns) ∷ [])) ≡ length columns
  alone_wide columns = ap length (append-nil (map (λ e. e.1) columns)) ∙ length-map columns (λ e. e.1)

  pub inner_is : (columns : Columns) (known : Option Columns) → known ≡ Some columns → place_alone known ≡ cond (same_text x.source alias) (place_among columns x.name) (length columns)
  inner_is columns known e = ap place_alone e ∙ go (same_text x.source alias)
    where
      go : (b : Bool) → unwrap_or (option_and_then (λ named. value_among named x.name) (cond b (Some (numbered 0 columns)) None)) (length (row_of {V = Kind} ((alias, columns) ∷ []))) ≡ cond b (place_among columns x.name) (length columns)
      go true = ap (unwrap_or (value_among (numbered 0 columns) x.name)) (alone_wide columns) ∙ number_is columns x.name
      go false = alone_wide columns
