-- The set of the columns of GROUP BY.
use Rattle.std.proofs.Common.{◌≡◌, ℕ, ◌+◌, ◌<◌, Bool, true, false, cond, ◌||◌, ◌++◌, List, [], ◌∷◌, length, map, take, get_or, refl, sym, ap, ◌∙◌}
use Rattle.std.specs.Cmp.{IsTotalOrder, Equal-is, tied_then, then_total, on_total}
use Rattle.std.specs.Cmp.Lexicographic.{slice_cmp}
use Rattle.std.specs.FinSet as set
use Rattle.std.specs.FinMap.{IsAntisymmetric, nat_cmp-IsAntisymmetric, slice_cmp-IsAntisymmetric}
use Rattle.std.specs.List.{list_any}
use Rattle.std.specs.Ordering.{eq_by_cmp, is_eq, nat_cmp}
use Rattle.std.proofs.lemmas.Bool.{and_parts}
use Rattle.std.proofs.lemmas.Cmp.{eq_by_cmp_equiv, nat_list_cmp_total}
use Rattle.std.proofs.lemmas.List.{take_more}
use Rattle.std.proofs.lemmas.List.Folds.{list_any-append}
use Rattle.sql_tree.specs.declared.parts.Column.{Column}
use Rattle.sql_check_parts.specs.Scopes.{ColumnName, column_name, column_order, grouping_of}
use Rattle.sql_check_parts.proofs.Maps.{map_push}

pub total : IsTotalOrder column_order
total = then_total (on_total (λ (c : ColumnName). c.0) nat_list_cmp_total) (on_total (λ (c : ColumnName). c.1) nat_list_cmp_total)

-- columns that the order does not tell apart are the same
apart : IsAntisymmetric column_order
apart x y e =
    let source = slice_cmp nat_cmp x.0 y.0 in
    let name = slice_cmp nat_cmp x.1 y.1 in
    let both = and_parts (is_eq source) (is_eq name) (tied_then source name ∙ ap is_eq e) in
    let sources = slice_cmp-IsAntisymmetric nat_cmp-IsAntisymmetric x.0 y.0 ((Equal-is source).0 both.0) in
    let names = slice_cmp-IsAntisymmetric nat_cmp-IsAntisymmetric x.1 y.1 ((Equal-is name).0 both.1) in
    λ i. (sources i, names i)

-- whether a column is among others
abbrev pub is_column_among : ColumnName → List ColumnName → Bool
is_column_among c cs = list_any (eq_by_cmp column_order c) cs

-- one more column
pub column_taken : (before after : List ColumnName) (cs : List Column) (i : ℕ) (c : Column) → i < length cs → c ≡ get_or cs i c
    → ((name : ColumnName) → is_column_among name before ≡ is_column_among name (map column_name (take i cs)))
    → ((name : ColumnName) → is_column_among name after ≡ cond (is_eq (column_order (column_name c) name)) true (is_column_among name before))
    → (name : ColumnName) → is_column_among name after ≡ is_column_among name (map column_name (take (i + 1) cs))
column_taken before after cs i c l e h u name =
    u name
    ∙ go (is_eq (column_order (column_name c) name)) (eq_by_cmp column_order name (column_name c)) (is_column_among name before) ((eq_by_cmp_equiv total).symm (column_name c) name)
    ∙ ap (λ b. b || eq_by_cmp column_order name (column_name c)) (h name)
    ∙ sym (one_more name)
  where
    or_true : (b : Bool) → true ≡ (b || true)
    or_true true = refl
    or_true false = refl

    or_false : (b : Bool) → b ≡ (b || false)
    or_false true = refl
    or_false false = refl

    go : (a b before : Bool) → a ≡ b → cond a true before ≡ (before || b)
    go true true before s = or_true before
    go true false before s = cc
    go false true before s = cc
    go false false before s = or_false before

    one_more : (name : ColumnName) → is_column_among name (map column_name (take (i + 1) cs)) ≡ (is_column_among name (map column_name (take i cs)) || eq_by_cmp column_order name (column_name c))
    one_more name =
        ap (λ xs. is_column_among name (map column_name xs)) (take_more cs i c l ∙ ap (λ y. take i cs ++ y ∷ []) (sym e))
        ∙ ap (is_column_among name) (map_push column_name (take i cs) c)
        ∙ list_any-append (eq_by_cmp column_order name) (map column_name (take i cs)) (column_name c ∷ [])
        ∙ ap (λ b. is_column_among name (map column_name (take i cs)) || b) (sym (or_false (eq_by_cmp column_order name (column_name c))))

-- a set of the same columns is the one of GROUP BY
pub same_group : (keys : List ColumnName) (cs : List Column) → ((name : ColumnName) → is_column_among name keys ≡ is_column_among name (map column_name cs)) → set.from_list {R = column_order} keys ≡ grouping_of cs
same_group keys cs h =
    set.same_set total apart (set.from_list keys) (set.from_list (map column_name cs))
    (λ name. set.contains-from_list total keys name ∙ h name ∙ sym (set.contains-from_list total (map column_name cs) name))

-- what the set answers
pub is_in_group : (keys : List ColumnName) (name : ColumnName) → is_column_among name keys ≡ set.contains (set.from_list {R = column_order} keys) name
is_in_group keys name = sym (set.contains-from_list total keys name)
