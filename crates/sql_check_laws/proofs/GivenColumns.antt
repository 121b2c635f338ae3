-- The columns that typed inputs and queries give.
use Rattle.std.proofs.Common.{◌≡◌, ◌≤◌, ◌∙◌, ◌+◌, suc, Bool, true, false, not, cond, ◌||◌, List, [], ◌∷◌, ◌++◌, length, map, refl, ap, sym, arith}
use Rattle.std.specs.Prelude.{Option, filter, zip}
use Rattle.std.specs.List.{AllByRecursion, list_any}
use Rattle.std.proofs.lemmas.List.{length-map}
use Rattle.std.proofs.lemmas.List.Filters.{length-filter_both}
use Rattle.std.proofs.lemmas.Bool.{or_parts}
use Rattle.grammar_forms.specs.Written.{Each}
use Rattle.vtl_decimal.specs.Settings.{Settings}
use Rattle.vtl_cell.specs.declared.kind.Kind.{Kind}
use Rattle.vtl_cell.specs.declared.kind.Kind.TheVariants as k
use Rattle.vtl_cell.specs.Literals.{is_null_kind}
use Rattle.sql_tree.specs.Formed.{IsInput, IsInputColumn, IsQuery, is_column_kind}
use Rattle.sql_tree.specs.Grammar.{most_levels}
use Rattle.sql_tree.specs.Trees.{QueryTree, Text}
use Rattle.sql_tree.specs.declared.statements.InputColumn.{InputColumn}
use Rattle.sql_tree.specs.declared.statements.SqlInput.{SqlInput}
use Rattle.sql_check_parts.specs.Queries.{item_name, query_columns, query_names, shared_kinds}
use Rattle.sql_check_parts.specs.Scopes.{Tables, or_null, repeats}
use Rattle.sql_check_parts.specs.Statements.{column_entry, in_table_order, is_of_key}
use Rattle.sql_check_parts.proofs.Maps.{keys_all}
use Rattle.sql_check_parts.proofs.QueryKinds.{as_many}
use Rattle.sql_check_laws.specs.Selects.{AreColumns, IsColumnKind, IsQueryWhole}
use Rattle.sql_check_laws.specs.Statements.{IsDeclared, IsInputTyped}

-- ---- inputs

-- those of the key and the others are all
parted : (key : List Text) (cs : List InputColumn) → length (in_table_order key cs) ≡ length cs
parted key cs = longer_by (filter (is_of_key key) cs) (filter (λ c. not (is_of_key key c)) cs) ∙ length-filter_both (is_of_key key) (λ c. not (is_of_key key c)) (λ c. refl) cs
  where
    longer_by : (xs ys : List InputColumn) → length (xs ++ ys) ≡ length xs + length ys
    longer_by [] ys = omega arith
    longer_by (x ∷ xs) ys = ap suc (longer_by xs ys) ∙ omega arith

-- no column has the kind null
no_null : (cs : List InputColumn) → Each IsInputColumn cs → list_any (λ c. is_null_kind c.kind) cs ≡ false
no_null [] h = refl
no_null (c ∷ cs) h = ap (λ b. b || list_any (λ c. is_null_kind c.kind) cs) (kind_told c.kind h.0.1) ∙ no_null cs h.1
  where
    kind_told : (kind : Kind) → is_column_kind kind ≡ true → is_null_kind kind ≡ false
    kind_told k.Null e = cc
    kind_told kind e = refl

none_kept : (f : InputColumn → Bool) (cs : List InputColumn) → list_any (λ c. is_null_kind c.kind) cs ≡ false → list_any (λ c. is_null_kind c.kind) (filter f cs) ≡ false
none_kept f [] h = refl
none_kept f (c ∷ cs) h = go (f c) (or_parts (is_null_kind c.kind) (list_any (λ c. is_null_kind c.kind) cs) h).0 (none_kept f cs (or_parts (is_null_kind c.kind) (list_any (λ c. is_null_kind c.kind) cs) h).1)
  where
    go : (b : Bool) → is_null_kind c.kind ≡ false → list_any (λ c. is_null_kind c.kind) (filter f cs) ≡ false → list_any (λ c. is_null_kind c.kind) (cond b (c ∷ filter f cs) (filter f cs)) ≡ false
    go true first rest = ap (λ b. b || list_any (λ c. is_null_kind c.kind) (filter f cs)) first ∙ rest
    go false first rest = rest

none_joined : (xs ys : List InputColumn) → list_any (λ c. is_null_kind c.kind) xs ≡ false → list_any (λ c. is_null_kind c.kind) ys ≡ false → list_any (λ c. is_null_kind c.1) (map column_entry (xs ++ ys)) ≡ false
none_joined [] [] h i = refl
none_joined [] (y ∷ ys) h i =
    let first = or_parts (is_null_kind y.kind) (list_any (λ c. is_null_kind c.kind) ys) i in
    ap (λ b. b || list_any (λ c. is_null_kind c.1) (map column_entry ys)) first.0 ∙ none_joined [] ys refl first.1
none_joined (x ∷ xs) ys h i =
    let first = or_parts (is_null_kind x.kind) (list_any (λ c. is_null_kind c.kind) xs) h in
    ap (λ b. b || list_any (λ c. is_null_kind c.1) (map column_entry (xs ++ ys))) first.0 ∙ none_joined xs ys first.1 i

pub inputs_declared : (tables : Tables) (s : SqlInput) → IsInput s → IsInputTyped tables s → IsDeclared s
inputs_declared tables s f t =
    let ordered = in_table_order s.key s.columns in
    let size = length-map ordered column_entry ∙ parted s.key s.columns in
    let none = no_null s.columns f.2 in
    let some = f.1 in
    let few = t.few in
    record {
      some = omega (arith, size, some);
      few = omega (arith, size, few);
      names = t.names;
      kinds = none_joined (filter (is_of_key s.key) s.columns) (filter (λ c. not (is_of_key s.key c)) s.columns) (none_kept (is_of_key s.key) s.columns none) (none_kept (λ c. not (is_of_key s.key c)) s.columns none);
      key = t.key;
      codes = t.codes;
    }

-- ---- queries

some_names : (q : QueryTree) → IsQuery most_levels q → 1 ≤ length (query_names q)
some_names [] h = absurd (omega (arith, h.0))
some_names (s ∷ ss) h = omega (arith, h.1.0.some, length-map s.items item_name)

long : {V : Type 0} (names : List Text) (vs : List V) → length vs ≡ length names → length (zip names vs) ≡ length names
long names vs h = sym (length-map (zip names vs) (λ e. e.0)) ∙ ap length (keys_all names vs h)

-- the kinds of columns, side by side with names
kinds_beside : (names : List Text) (cs : List (Option Kind)) → AllByRecursion IsColumnKind cs → list_any (λ c. is_null_kind c.1) (zip names (map or_null cs)) ≡ false
kinds_beside [] cs h = refl
kinds_beside (n ∷ names) [] h = refl
kinds_beside (n ∷ names) (c ∷ cs) h = ap (λ b. b || list_any (λ c. is_null_kind c.1) (zip names (map or_null cs))) h.0 ∙ kinds_beside names cs h.1

names_differ : (p : Settings) (tables : Tables) (q : QueryTree) → IsQueryWhole p tables q → repeats (query_names q) ≡ false
names_differ p tables [] h = refl
names_differ p tables (s ∷ ss) h = h.0.selects.0.names

pub columns_are : (p : Settings) (tables : Tables) (q : QueryTree) → IsQuery most_levels q → IsQueryWhole p tables q → AreColumns (query_columns tables q)
columns_are p tables q f h =
    let kinds = map or_null (shared_kinds tables q) in
    let size = long (query_names q) kinds (as_many tables q) in
    let few = h.0.few in
    record {
      some = omega (arith, size, some_names q f);
      few = omega (arith, size, few);
      names = ap repeats (keys_all (query_names q) kinds (as_many tables q)) ∙ names_differ p tables q h;
      kinds = kinds_beside (query_names q) (shared_kinds tables q) h.1;
    }
