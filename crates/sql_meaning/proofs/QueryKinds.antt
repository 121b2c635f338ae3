-- The rows of a typed query fit its columns: items, selects, and their union.
use Rattle.std.proofs.Common.{◌≡◌, ℕ, List, [], ◌∷◌, ◌++◌, map, length, Bool, true, false, cond, ◌&&◌, Option, Some, None, Ok, Err, refl, subst}
use Rattle.std.specs.Prelude.{IfOk, zip}
use Rattle.std.specs.List.{AllByRecursion, flat_map, position_or_len}
use Rattle.vtl_lists.proofs.Sorts.{AllByRecursion-filter}
use Rattle.vtl_cell.specs.Conversion.{as_kind}
use Rattle.vtl_cell.specs.Kinds.{is_of}
use Rattle.vtl_cell.specs.Outcome.{Outcome, after, fault_in, faults_by, join}
use Rattle.vtl_cell.specs.Outcomes.{is_true}
use Rattle.vtl_cell.specs.Row.{Row, same_row}
use Rattle.vtl_decimal.specs.Settings.{Settings}
use Rattle.vtl_cell.specs.declared.cell.Cell.{Cell}
use Rattle.vtl_cell.specs.declared.kind.Kind.{Kind}
use Rattle.vtl_rows.specs.Tables.{cells_at, fits_kinds}
use Rattle.vtl_rows.proofs.Gathered.{null_is_of}
use Rattle.vtl_scalar.specs.KindLaws.{HasKind, IsOfKind}
use Rattle.sql_tree.specs.Trees as tree
use Rattle.sql_tree.specs.Trees.{Exp, ItemTree, QueryTree, SelectTree, Text, ValueTree}
use Rattle.sql_tree.specs.declared.parts.Column.{Column}
use Rattle.sql_check_parts.specs.Expressions.{Site, site}
use Rattle.sql_check_parts.specs.Queries as typing
use Rattle.sql_check_parts.specs.Queries.{beside, groups_of, is_grouped, item_kind, item_name, names_of, query_columns, query_names, same_names, scope_of, shared_kinds, value_kind}
use Rattle.sql_check_parts.specs.Scopes.{Scope, grouping_of, row_of}
use Rattle.sql_check_laws.specs.Selects.{IsItemTyped, IsQueryTyped, IsSelectTyped, IsValueTyped}
use Rattle.sql_meaning.specs.From.{nulls, source_rows}
use Rattle.sql_meaning.specs.Groups.{keys_by, rows_with}
use Rattle.sql_meaning.specs.Outcomes.{cell_or_null, row_at, row_fault}
use Rattle.sql_meaning.specs.Selects.{Wanted, at_key, group_item, group_rows, grouped_rows, having_fault, item_value, kept_keys, key_value, plain_rows, query_value, row_value, rows_in, second_phase, select_value}
use Rattle.sql_meaning.specs.Tables.{Base, RowsFit, TablesFit, kinds_of}
use Rattle.sql_meaning.specs.Values.{View, at_groups, at_rows, place_in, same_column}
use Rattle.sql_meaning.specs.Windows.{told_apart}
use Rattle.sql_meaning.proofs.ExpressionKinds.{Sees, value_has}
use Rattle.sql_meaning.proofs.Lists.{all_once, under}
use Rattle.sql_meaning.proofs.OperatorKinds.{after_if, as_kind_is_of}
use Rattle.sql_meaning.proofs.SharedKinds.{Lifted, all_lifted}
use Rattle.sql_meaning.proofs.SourceKinds.{nulls_fit, source_rows_fit, unless_ok}
use Rattle.sql_meaning.proofs.WindowKinds.{sees_key, sees_row, sees_rows, window_has}

-- ---- a row of items
module _ {X : Type 0} (p : Settings) (scope : Scope) (f : ValueTree → X → Outcome Cell) (x : X) where
  wanted : Wanted → X → Outcome Cell
  wanted i y = after (f i.0.value y) (as_kind p i.1)

  cell_fits : (kind : Kind) (m : Outcome Cell) → IfOk m (λ v. is_of kind v ≡ true) → is_of kind (cell_or_null m) ≡ true
  cell_fits kind (Ok v) h = h
  cell_fits kind (Err e) h = null_is_of kind

  row_fits : (items : List ItemTree) (kinds : List Kind) → Lifted kinds (map (item_kind scope) items) → AllByRecursion (λ i. HasKind (item_kind scope i) (f i.value x)) items → fits_kinds kinds (row_at (λ i y. after (f i.0.value y) (as_kind p i.1)) (zip items kinds) x) ≡ true
  row_fits [] [] up all = refl
  row_fits [] (z ∷ kinds) up all = absurd up
  row_fits (i ∷ items) [] up all = absurd up
  row_fits (i ∷ items) (z ∷ kinds) up all =
      let one : is_of z (cell_or_null (after (f i.value x) (as_kind p z))) ≡ true = cell_fits z (after (f i.value x) (as_kind p z)) (after_if (f i.value x) (as_kind p z) (IsOfKind (item_kind scope i)) (λ v. is_of z v ≡ true) all.0 (λ v h. as_kind_is_of p z v (up.0 v h))) in
      λ n. one n && row_fits items kinds up.1 all.1 n

-- ---- items of a select
all_mapped : {X : Type 0} (f : X → Row) (P : X → Type 0) (ks : List Kind) → ((x : X) → P x → fits_kinds ks (f x) ≡ true) → (xs : List X) → AllByRecursion P xs → RowsFit ks (map f xs)
all_mapped f P ks h [] all = tt
all_mapped f P ks h (x ∷ xs) all = (h x all.0, all_mapped f P ks h xs all.1)

told_apart_fit : (ks : List Kind) (rows : List Row) → RowsFit ks rows → AllByRecursion (λ (x : Row × ℕ). fits_kinds ks x.0 ≡ true) (told_apart rows)
told_apart_fit ks [] all = tt
told_apart_fit ks (r ∷ rows) all = (all.0, told_apart_fit ks rows all.1)

module _ (b : Base) (scope : Scope) (kinds : List Kind) (items : List ItemTree) (up : Lifted kinds (map (item_kind scope) items)) (rows : List Row) (all : RowsFit (row_of scope) rows) where
  abbrev v : View
  v = at_rows b scope

  abbrev here : Site
  here = site b.settings b.tables scope

  -- of rows
  row_item_has : (w : ValueTree) (x : Row × ℕ) → IsValueTyped here None w → fits_kinds (row_of scope) x.0 ≡ true → HasKind (value_kind scope w) (row_value v rows w x)
  row_item_has (tree.expression e) x h fit = value_has b scope (place_in scope) None e x.0 [] h (sees_row b scope x.0 fit) tt
  row_item_has (tree.window w) x h fit = window_has b scope rows all w x h

  pub plain_fit : (out : List Row) → AllByRecursion (IsItemTyped here None) items → plain_rows v (zip items kinds) rows ≡ Ok out → RowsFit kinds out
  plain_fit out h is =
      subst (RowsFit kinds) (unless_ok (faults_by (row_fault (item_value v rows) (zip items kinds)) (told_apart rows)) (map (row_at (item_value v rows) (zip items kinds)) (told_apart rows)) out is)
      (all_mapped (row_at (item_value v rows) (zip items kinds)) (λ (x : Row × ℕ). fits_kinds (row_of scope) x.0 ≡ true) kinds
      (λ x fit. row_fits b.settings scope (row_value v rows) x items kinds up (under (λ i g. row_item_has i.value x g fit) items h))
      (told_apart rows) (told_apart_fit (row_of scope) rows all))

  -- of groups
  module _ (group : List Column) where
    abbrev places : List ℕ
    places = map (place_in scope) group

    abbrev place : Column → ℕ
    place = λ x. position_or_len (same_column x) group

    abbrev SeesKey : Row → Type 0
    SeesKey key = Sees b scope (Some (grouping_of group)) place key

    mapped_keys : (rs : List Row) → RowsFit (row_of scope) rs → AllByRecursion SeesKey (map (cells_at places) rs)
    mapped_keys [] fit = tt
    mapped_keys (r ∷ rs) fit = (sees_key b scope group r fit.0, mapped_keys rs fit.1)

    members_fit : (key : Row) → RowsFit (row_of scope) (rows_with places rows key)
    members_fit key = AllByRecursion-filter (λ r. fits_kinds (row_of scope) r ≡ true) (λ r. same_row (cells_at places r) key) rows all

    key_item_has : (w : ValueTree) (key : Row) → IsValueTyped here (Some (grouping_of group)) w → SeesKey key → HasKind (value_kind scope w) (key_value (at_groups b scope group) (rows_with places rows) w key)
    key_item_has (tree.expression e) key h see = value_has b scope place (Some (grouping_of group)) e key (rows_with places rows key) h see (sees_rows b scope (rows_with places rows key) (members_fit key))
    key_item_has (tree.window w) key h see = refl

    kept_all : (having : Option Exp) (keys : List Row) → AllByRecursion SeesKey keys → AllByRecursion SeesKey (kept_keys (at_groups b scope group) (rows_with places rows) having keys)
    kept_all None keys see = see
    kept_all (Some e) keys see = AllByRecursion-filter SeesKey (λ key. is_true (at_key (at_groups b scope group) (rows_with places rows) e key)) keys see

    groups_fit : (having : Option Exp) (keys out : List Row) → AllByRecursion (IsItemTyped here (Some (grouping_of group))) items → AllByRecursion SeesKey keys → group_rows (at_groups b scope group) (zip items kinds) having (rows_with places rows) keys ≡ Ok out → RowsFit kinds out
    groups_fit having keys out h see is =
        let w = at_groups b scope group in
        let members = rows_with places rows in
        let kept = kept_keys w members having keys in
        subst (RowsFit kinds) (unless_ok (join (having_fault w members having keys) (faults_by (row_fault (group_item w members) (zip items kinds)) kept)) (map (row_at (group_item w members) (zip items kinds)) kept) out is)
        (all_mapped (row_at (group_item w members) (zip items kinds)) SeesKey kinds
        (λ key sees. row_fits b.settings scope (key_value w members) key items kinds up (under {P = IsItemTyped here (Some (grouping_of group))} {Q = λ (i : ItemTree). HasKind (item_kind scope i) (key_value w members i.value key)} (λ i g. key_item_has i.value key g sees) items h))
        kept (kept_all having keys see))

  keys_see : (group : List Column) → AllByRecursion (SeesKey group) (keys_by (places group) rows)
  keys_see [] = (sees_key b scope [] (nulls (length (row_of scope))) (nulls_fit (row_of scope)), tt)
  keys_see (y ∷ group) = all_once same_row (SeesKey (y ∷ group)) (map (cells_at (places (y ∷ group))) rows) (mapped_keys (y ∷ group) rows all)

  pub grouped_fit : (group : List Column) (having : Option Exp) (out : List Row) → AllByRecursion (IsItemTyped here (Some (grouping_of group))) items → grouped_rows v (zip items kinds) group having rows ≡ Ok out → RowsFit kinds out
  grouped_fit group having out h is = groups_fit group having (keys_by (places group) rows) out h (keys_see group) is

-- ---- a select
after_ok : {A B : Type 0} (m : Outcome A) (f : A → Outcome B) (out : B) → after m f ≡ Ok out → (x : A) × (m ≡ Ok x) × (f x ≡ Ok out)
after_ok (Ok x) f out e = (x, refl, e)
after_ok (Err f) g out e = cc

module _ (b : Base) (fit : TablesFit b) where
  select_fit : (kinds : List Kind) (s : SelectTree) (out : List Row) → IsSelectTyped b.settings b.tables s → Lifted kinds (typing.kinds_of b.tables s) → select_value b kinds s ≡ Ok out → RowsFit kinds out
  select_fit kinds s out h up is =
      let scope = scope_of b.tables s in
      let got = after_ok (source_rows b s) (second_phase (at_rows b scope) (zip s.items kinds) s) out is in
      go (is_grouped s) h.items got.0 got.2 (source_rows_fit b fit s got.0 h got.1)
    where
      go : (g : Bool) → AllByRecursion (IsItemTyped (site b.settings b.tables (scope_of b.tables s)) (cond g (Some (grouping_of s.group)) None)) s.items → (rows : List Row)
          → cond g (grouped_rows (at_rows b (scope_of b.tables s)) (zip s.items kinds) s.group s.having rows) (plain_rows (at_rows b (scope_of b.tables s)) (zip s.items kinds) rows) ≡ Ok out
          → RowsFit (row_of (scope_of b.tables s)) rows → RowsFit kinds out
      go true e rows q all = grouped_fit b (scope_of b.tables s) kinds s.items up rows all s.group s.having out e q
      go false e rows q all = plain_fit b (scope_of b.tables s) kinds s.items up rows all out e q

  -- ---- a query
  all_selects : (kinds : List Kind) (q : QueryTree) → AllByRecursion (IsSelectTyped b.settings b.tables) q → AllByRecursion (λ s. Lifted kinds (typing.kinds_of b.tables s)) q → RowsFit kinds (flat_map rows_in (map (select_value b kinds) q))
  all_selects kinds [] h up = tt
  all_selects kinds (s ∷ ss) h up = more (rows_in (select_value b kinds s)) (one (select_value b kinds s) refl) (all_selects kinds ss h.1 up.1)
    where
      one : (m : Outcome (List Row)) → select_value b kinds s ≡ m → RowsFit kinds (rows_in m)
      one (Ok out) e = select_fit kinds s out h.0 up.0 e
      one (Err f) e = tt

      more : (us : List Row) → RowsFit kinds us → RowsFit kinds (flat_map rows_in (map (select_value b kinds) ss)) → RowsFit kinds (us ++ flat_map rows_in (map (select_value b kinds) ss))
      more [] u w = w
      more (r ∷ us) u w = (u.0, more us u.1 w)

  -- as many cells as columns, each null or of its column's kind
  pub query_fit : (q : QueryTree) (rows : List Row) → IsQueryTyped b.settings b.tables q → query_value b q ≡ Ok rows → RowsFit (kinds_of (query_columns b.tables q)) rows
  query_fit q rows h is =
      let kinds = kinds_of (query_columns b.tables q) in
      subst (RowsFit kinds) (unless_ok (faults_by fault_in (map (select_value b kinds) q)) (flat_map rows_in (map (select_value b kinds) q)) rows is)
      (all_selects kinds q h.selects (all_lifted b q h))
