-- The rows of a grouped select that is typed fit its columns.
use Rattle.std.proofs.Common.{◌≡◌, List, [], ◌∷◌, map, length, true, ◌&&◌, Some, Ok, Err, refl, ◌∙◌}
use Rattle.std.specs.Prelude.{IfOk, zip}
use Rattle.std.specs.List.{AllByRecursion, position_or_len}
use Rattle.vtl_lists.proofs.Sorts.{AllByRecursion-filter}
use Rattle.vtl_cell.specs.Conversion.{as_kind}
use Rattle.vtl_cell.specs.Kinds.{is_of}
use Rattle.vtl_cell.specs.Outcome.{Outcome, after}
use Rattle.vtl_cell.specs.Row.{Row, same_row}
use Rattle.vtl_decimal.specs.Settings.{Settings}
use Rattle.vtl_cell.specs.declared.cell.Cell.{Cell}
use Rattle.vtl_cell.specs.declared.kind.Kind.{Kind}
use Rattle.vtl_rows.specs.Tables.{cells_at, column_kinds, fits, fits_kinds}
use Rattle.vtl_rows.specs.declared.column.Column.{Column as TableColumn}
use Rattle.vtl_rows.proofs.Gathered.{null_is_of}
use Rattle.vtl_scalar.specs.KindLaws.{HasKind, IsOfKind}
use Rattle.sql_tree.specs.Trees as tree
use Rattle.sql_tree.specs.Trees.{Exp, ItemTree, ValueTree}
use Rattle.sql_tree.specs.declared.parts.Column.{Column}
use Rattle.sql_check_parts.specs.Expressions.{Site, site}
use Rattle.sql_check_parts.specs.Queries.{item_kind, value_kind}
use Rattle.sql_check_parts.specs.Scopes.{Scope, grouping_of, row_of}
use Rattle.sql_check_laws.specs.Selects.{IsItemTyped, IsValueTyped}
use Rattle.sql_meaning.specs.From.{nulls}
use Rattle.sql_meaning.specs.Groups.{keys_by, rows_with}
use Rattle.sql_meaning.specs.Outcomes.{cell_or_null, row_at}
use Rattle.sql_meaning.specs.Selects.{Wanted, group_item, key_value}
use Rattle.sql_meaning.specs.Tables.{Base, RowsFit}
use Rattle.sql_meaning.specs.Values.{View, at_groups, place_in, same_column}
use Rattle.sql_meaning.proofs.ExpressionKinds.{Sees, value_has}
use Rattle.sql_meaning.proofs.Lists.{all_once, under}
use Rattle.sql_meaning.proofs.OperatorKinds.{after_if, as_kind_is_of}
use Rattle.sql_meaning.proofs.SourceKinds.{nulls_fit}
use Rattle.sql_meaning.proofs.WindowKinds.{sees_key, sees_rows}
use Rattle.sql_groups.specs.Resolved.{AreLifted}

cell_fits : (kind : Kind) (m : Outcome Cell) → IfOk m (λ v. is_of kind v ≡ true) → is_of kind (cell_or_null m) ≡ true
cell_fits kind (Ok v) h = h
cell_fits kind (Err e) h = null_is_of kind

-- a row of items, each made one of a kind to which its own is lifted
row_fits : {X : Type 0} (p : Settings) (scope : Scope) (f : ValueTree → X → Outcome Cell) (x : X) (items : List ItemTree) (kinds : List Kind) → AreLifted kinds (map (item_kind scope) items) → AllByRecursion (λ i. HasKind (item_kind scope i) (f i.value x)) items
    → fits_kinds kinds (row_at (λ (i : Wanted) y. after (f i.0.value y) (as_kind p i.1)) (zip items kinds) x) ≡ true
row_fits p scope f x [] [] up all = refl
row_fits p scope f x [] (z ∷ kinds) up all = absurd up
row_fits p scope f x (i ∷ items) [] up all = absurd up
row_fits p scope f x (i ∷ items) (z ∷ kinds) up all =
    let one : is_of z (cell_or_null (after (f i.value x) (as_kind p z))) ≡ true = cell_fits z (after (f i.value x) (as_kind p z)) (after_if (f i.value x) (as_kind p z) (IsOfKind (item_kind scope i)) (λ v. is_of z v ≡ true) all.0 (λ v h. as_kind_is_of p z v (up.0 v h))) in
    λ n. one n && row_fits p scope f x items kinds up.1 all.1 n

module _ (b : Base) (scope : Scope) (group : List Column) (rows : List Row) (all : RowsFit (row_of scope) rows) where
  abbrev here : Site
  here = site b.settings b.tables scope

  abbrev v : View
  v = at_groups b scope group

  abbrev members : Row → List Row
  members = rows_with (map (place_in scope) group) rows

  -- a key has a cell of its kind for each column of GROUP BY
  abbrev SeesKey : Row → Type 0
  SeesKey key = Sees b scope (Some (grouping_of group)) (λ x. position_or_len (same_column x) group) key

  item_has : (w : ValueTree) (key : Row) → IsValueTyped here (Some (grouping_of group)) w → SeesKey key → HasKind (value_kind scope w) (key_value v members w key)
  item_has (tree.expression e) key h see =
      value_has b scope (λ x. position_or_len (same_column x) group) (Some (grouping_of group)) e key (members key) h see
      (sees_rows b scope (members key) (AllByRecursion-filter (λ r. fits_kinds (row_of scope) r ≡ true) (λ r. same_row (cells_at (map (place_in scope) group) r) key) rows all))
  item_has (tree.window w) key h see = refl

  mapped_keys : (rs : List Row) → RowsFit (row_of scope) rs → AllByRecursion SeesKey (map (cells_at (map (place_in scope) group)) rs)
  mapped_keys [] fit = tt
  mapped_keys (r ∷ rs) fit = (sees_key b scope group r fit.0, mapped_keys rs fit.1)

  key_row_fits : (items : List ItemTree) (kinds : List Kind) → AreLifted kinds (map (item_kind scope) items) → AllByRecursion (IsItemTyped here (Some (grouping_of group))) items → (key : Row) → SeesKey key → fits_kinds kinds (row_at (group_item v members) (zip items kinds) key) ≡ true
  key_row_fits items kinds up h key see = row_fits b.settings scope (key_value v members) key items kinds up (under (λ i t. item_has i.value key t see) items h)

keys_see : (b : Base) (scope : Scope) (group : List Column) (rows : List Row) (all : RowsFit (row_of scope) rows) → AllByRecursion (SeesKey b scope group rows all) (keys_by (map (place_in scope) group) rows)
keys_see b scope [] rows all = (sees_key b scope [] (nulls (length (row_of scope))) (nulls_fit (row_of scope)), tt)
keys_see b scope (y ∷ group) rows all = all_once same_row (SeesKey b scope (y ∷ group) rows all) (map (cells_at (map (place_in scope) (y ∷ group))) rows) (mapped_keys b scope (y ∷ group) rows all rows all)

-- the row of each key, however it is made
pub made_rows_fit : (b : Base) (scope : Scope) (group : List Column) (rows : List Row) → RowsFit (row_of scope) rows → (items : List ItemTree) (kinds : List Kind) → AreLifted kinds (map (item_kind scope) items) → AllByRecursion (IsItemTyped (site b.settings b.tables scope) (Some (grouping_of group))) items
    → (columns : List TableColumn) → column_kinds columns ≡ kinds → (f : Row → Row) → ((key : Row) → f key ≡ row_at (group_item (at_groups b scope group) (rows_with (map (place_in scope) group) rows)) (zip items kinds) key)
    → AllByRecursion (λ key. fits columns (f key) ≡ true) (keys_by (map (place_in scope) group) rows)
made_rows_fit b scope group rows all items kinds up h columns e f is =
    under (λ key see. (λ n. fits_kinds (e n) (is key n)) ∙ key_row_fits b scope group rows all items kinds up h key see) (keys_by (map (place_in scope) group) rows) (keys_see b scope group rows all)
