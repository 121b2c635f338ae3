-- The columns of many sources.
use Rattle.std.proofs.Common.{◌≡◌, ◌≤◌, ◌<◌, ◌+◌, ◌-◌, ◌^◌, ◌||◌, ℕ, suc, Bool, true, false, cond, List, [], ◌∷◌, ◌++◌, length, map, Some, refl, ap, sym, ◌∙◌, arith, append_assoc, append-nil}
use Rattle.std.specs.Prelude.{nat_lt, if◌then◌else◌, option_and_then, unwrap_or}
use Rattle.std.specs.List.{AllByRecursion, flat_map}
use Rattle.std.specs.Map.{keys_of, lookup}
use Rattle.std.proofs.lemmas.Bool.{le-ltb, lt-ltb}
use Rattle.std.proofs.lemmas.List.{length-map}
use Rattle.vtl_text.specs.Texts.{same_text}
use Rattle.vtl_text.specs.Words.{is_word}
use Rattle.vtl_cell.specs.declared.kind.Kind.{Kind}
use Rattle.vtl_tree.specs.declared.structure.Component.{Component}
use Rattle.vtl_tree.proofs.NotNullLemmas.{same_itself}
use Rattle.vtl_meaning.specs.Made.{IsColumnAt}
use Rattle.sql_tree.specs.Formed.{IsName}
use Rattle.sql_tree.specs.declared.parts.Column.{Column}
use Rattle.sql_check_parts.specs.Scopes.{Scope, found, is_among, numbered, placed_from, row_of, value_among}
use Rattle.expressions_to_sql.specs.Names.{AreNamesFormed, Names}
use Rattle.expressions_to_sql.specs.ToSql.{column_of}
use Rattle.selects_to_sql.specs.Writable.{HaveNames}
use Rattle.selects_to_sql.specs.Queries.{alias_of, first_alias}
use Rattle.joins_to_sql.specs.Joins.{of_many}
use Rattle.selects_to_sql.specs.Runs.{entries}
use Rattle.selects_to_sql.proofs.Names.{numbered_is_name, numbers_differ}
use Rattle.selects_to_sql.proofs.Sources.{AreApart, column_of_two, is_named, kind_found, place_found}
use lib.Utf8.{encode}

-- ---- their aliases

pub alias_is_name : (i : ℕ) → i < 2 ^ 64 → IsName (alias_of i)
unfolding is_word encode
alias_is_name i h = numbered_is_name first_alias i refl h

pub aliases_differ : (i j : ℕ) → i < j → j < 2 ^ 64 → same_text (alias_of j) (alias_of i) ≡ false
aliases_differ i j h few = numbers_differ first_alias j i h few

-- ---- the sources

-- sources of these columns, numbered from here
abbrev pub many_scope : ℕ → List (List Component) → Scope
many_scope i [] = []
many_scope i (ys ∷ yss) = (alias_of i, entries ys) ∷ many_scope (suc i) yss

abbrev pub all_columns : List (List Component) → List Component
all_columns yss = flat_map (λ ys. ys) yss

abbrev pub widths : List (List Component) → List ℕ
widths yss = map (λ ys. length ys) yss

-- one source more
pub scope_more : (i : ℕ) (yss : List (List Component)) (ys : List Component) → many_scope i (yss ++ ys ∷ []) ≡ many_scope i yss ++ (alias_of (i + length yss), entries ys) ∷ []
scope_more i [] ys = let same : i ≡ i + 0 = omega arith in ap (λ n. (alias_of n, entries ys) ∷ []) same
scope_more i (zs ∷ yss) ys =
    let same : suc i + length yss ≡ i + length (zs ∷ yss) = omega arith in
    ap (λ l. (alias_of i, entries zs) ∷ l) (scope_more (suc i) yss ys ∙ ap (λ n. many_scope (suc i) yss ++ (alias_of n, entries ys) ∷ []) same)

-- its alias is new
pub alias_free : (i n : ℕ) (yss : List (List Component)) → i + length yss ≤ n → n < 2 ^ 64 → is_among (alias_of n) (keys_of (many_scope i yss)) ≡ false
alias_free i n [] h few = refl
alias_free i n (ys ∷ yss) h few =
    ap (λ b. b || is_among (alias_of n) (keys_of (many_scope (suc i) yss))) (aliases_differ i n (omega (arith, h)) few)
    ∙ alias_free (suc i) n yss (omega (arith, h)) few

pub columns_more : (yss : List (List Component)) (ys : List Component) → all_columns (yss ++ ys ∷ []) ≡ all_columns yss ++ ys
columns_more [] ys = append-nil ys
columns_more (zs ∷ yss) ys = ap (λ l. zs ++ l) (columns_more yss ys) ∙ sym (append_assoc zs (all_columns yss) ys)

-- ---- names

-- a column of the first source, and one of those behind it
pub of_first : (i w j : ℕ) (ws : List ℕ) (name : List ℕ) → j < w → of_many i (w ∷ ws) j name ≡ column_of (alias_of i) name
of_first i w j ws name h = ap (λ b. if b then column_of (alias_of i) name else of_many (suc i) ws (j - w) name) (lt-ltb j w h)

pub of_later : (i w j : ℕ) (ws : List ℕ) (name : List ℕ) → of_many i (w ∷ ws) (w + j) name ≡ of_many (suc i) ws j name
of_later i w j ws name =
    let less : (w + j) - w ≡ j = omega arith in
    ap (λ b. if b then column_of (alias_of i) name else of_many (suc i) ws ((w + j) - w) name) (le-ltb (w + j) w (omega arith)) ∙ ap (λ n. of_many (suc i) ws n name) less

later_alias : (i k : ℕ) (ws : List ℕ) (place : ℕ) (name : List ℕ) → i < k → k + length ws < 2 ^ 64 → same_text (of_many k ws place name).source (alias_of i) ≡ false
later_alias i k [] place name h few = aliases_differ i k h (omega (arith, few))
later_alias i k (w ∷ ws) place name h few = go (nat_lt place w) (later_alias i (suc k) ws (place - w) name (omega (arith, h)) (omega (arith, few)))
  where
    go : (b : Bool) → same_text (of_many (suc k) ws (place - w) name).source (alias_of i) ≡ false → same_text (if b then column_of (alias_of k) name else of_many (suc k) ws (place - w) name).source (alias_of i) ≡ false
    go true ih = aliases_differ i k h (omega (arith, few))
    go false ih = ih

-- a source with a later alias is sought behind the first
found_later : {V : Type 0} (i : ℕ) (vs : List (List ℕ × V)) (rest : List (List ℕ × List (List ℕ × V))) (c : Column) → same_text c.source (alias_of i) ≡ false → found ((alias_of i, vs) ∷ rest) c ≡ found rest c
found_later i vs rest c e = ap (λ b. option_and_then (λ named. value_among named c.name) (cond b (Some vs) (lookup (same_text c.source) rest))) e

found_here : {V : Type 0} (i : ℕ) (vs : List (List ℕ × V)) (rest : List (List ℕ × List (List ℕ × V))) (name : List ℕ) → found ((alias_of i, vs) ∷ rest) (column_of (alias_of i) name) ≡ value_among vs name
found_here i vs rest name = ap (λ b. option_and_then (λ named. value_among named name) (cond b (Some vs) (lookup (same_text (alias_of i)) rest))) (same_itself (alias_of i))

abbrev pub AllApart : List (List Component) → Type 0
AllApart yss = AllByRecursion AreApart yss

many_known : (i : ℕ) (yss : List (List Component)) (more : List ℕ) → AllApart yss → i + length (widths yss ++ more) < 2 ^ 64 → (place : ℕ) (name : List ℕ) (kind : Kind) → IsColumnAt place name kind (all_columns yss) → found (many_scope i yss) (of_many i (widths yss ++ more) place name) ≡ Some kind
many_known i [] more all few place name kind c = absurd c
many_known i (ys ∷ yss) more all few place name kind c =
    column_of_two ys (all_columns yss) place name kind (λ n. found (many_scope i (ys ∷ yss)) (of_many i (widths (ys ∷ yss) ++ more) n name) ≡ Some kind)
    (λ j h d. ap (found (many_scope i (ys ∷ yss))) (of_first i (length ys) j (widths yss ++ more) name h) ∙ found_here i (entries ys) (many_scope (suc i) yss) name ∙ kind_found j name kind ys d all.0)
    (λ j d.
    ap (found (many_scope i (ys ∷ yss))) (of_later i (length ys) j (widths yss ++ more) name)
    ∙ found_later i (entries ys) (many_scope (suc i) yss) (of_many (suc i) (widths yss ++ more) j name) (later_alias i (suc i) (widths yss ++ more) j name (omega arith) (omega (arith, few)))
    ∙ many_known (suc i) yss more all.1 (omega (arith, few)) j name kind d) c

many_placed : (i m : ℕ) (yss : List (List Component)) (more : List ℕ) → AllApart yss → i + length (widths yss ++ more) < 2 ^ 64 → (place : ℕ) (name : List ℕ) (kind : Kind) → IsColumnAt place name kind (all_columns yss)
    → found (placed_from m (many_scope i yss)) (of_many i (widths yss ++ more) place name) ≡ Some (m + place)
many_placed i m [] more all few place name kind c = absurd c
many_placed i m (ys ∷ yss) more all few place name kind c =
    column_of_two ys (all_columns yss) place name kind (λ n. found (placed_from m (many_scope i (ys ∷ yss))) (of_many i (widths (ys ∷ yss) ++ more) n name) ≡ Some (m + n))
    (λ j h d.
    ap (found (placed_from m (many_scope i (ys ∷ yss)))) (of_first i (length ys) j (widths yss ++ more) name h)
    ∙ found_here i (numbered m (entries ys)) (placed_from (m + length (entries ys)) (many_scope (suc i) yss)) name
    ∙ place_found m j name kind ys d all.0)
    (λ j d.
    let size : length (entries ys) ≡ length ys = length-map ys (λ x. (x.name, x.kind)) in
    let sum : (m + length (entries ys)) + j ≡ m + (length ys + j) = omega (arith, size) in
    ap (found (placed_from m (many_scope i (ys ∷ yss)))) (of_later i (length ys) j (widths yss ++ more) name)
    ∙ found_later i (numbered m (entries ys)) (placed_from (m + length (entries ys)) (many_scope (suc i) yss)) (of_many (suc i) (widths yss ++ more) j name) (later_alias i (suc i) (widths yss ++ more) j name (omega arith) (omega (arith, few)))
    ∙ many_placed (suc i) (m + length (entries ys)) yss more all.1 (omega (arith, few)) j name kind d
    ∙ ap Some sum) c

-- the first of several sources name their columns
pub many_names : (yss : List (List Component)) (more : List ℕ) → AllApart yss → length (widths yss ++ more) < 2 ^ 64 → Names (of_many 0 (widths yss ++ more)) (many_scope 0 yss) (all_columns yss)
many_names yss more all few = record {
  known = λ place name kind c. many_known 0 yss more all (omega (arith, few)) place name kind c;
  placed = λ place name kind c. let same : 0 + place ≡ place = omega arith in ap (λ o. unwrap_or o (length (row_of (many_scope 0 yss)))) (many_placed 0 0 yss more all (omega (arith, few)) place name kind c) ∙ same;
}

-- ---- names that are written

of_formed : (k : ℕ) (vs : List ℕ) (place : ℕ) (name : List ℕ) → k + length vs < 2 ^ 64 → IsName name → IsName (of_many k vs place name).source × IsName (of_many k vs place name).name
of_formed k [] place name h named = (alias_is_name k (omega (arith, h)), named)
of_formed k (v ∷ vs) place name h named = go (nat_lt place v) (of_formed (suc k) vs (place - v) name (omega (arith, h)) named)
  where
    go : (b : Bool) → IsName (of_many (suc k) vs (place - v) name).source × IsName (of_many (suc k) vs (place - v) name).name
        → IsName (if b then column_of (alias_of k) name else of_many (suc k) vs (place - v) name).source × IsName (if b then column_of (alias_of k) name else of_many (suc k) vs (place - v) name).name
    go true ih = (alias_is_name k (omega (arith, h)), named)
    go false ih = ih

pub many_formed : (i : ℕ) (ws : List ℕ) (xs : List Component) → i + length ws < 2 ^ 64 → HaveNames xs → AreNamesFormed (of_many i ws) xs
many_formed i ws xs few all = λ place name kind c. of_formed i ws place name few (is_named xs all place name kind c)
