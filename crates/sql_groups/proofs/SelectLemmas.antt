-- A grouped select, from its parts.
use Rattle.std.proofs.Common.{◌≡◌, suc, List, [], ◌∷◌, map, length, true, cond, Some, None, refl, ap, ◌∙◌, sym, subst}
use Rattle.std.specs.Prelude.{zip}
use Rattle.std.specs.List.{AllByRecursion}
use Rattle.std.proofs.lemmas.List.{length-map}
use Rattle.vtl_decimal.specs.Settings.{Settings}
use Rattle.vtl_cell.specs.declared.kind.Kind.{Kind}
use Rattle.vtl_rows.specs.Tables.{column_kinds, fits}
use Rattle.vtl_rows.specs.declared.column.Column.{Column as TableColumn}
use Rattle.sql_tree.specs.Trees.{SelectTree}
use Rattle.sql_tree.specs.declared.parts.Column.{Column}
use Rattle.sql_check_parts.specs.Expressions.{site}
use Rattle.sql_check_parts.specs.Queries.{is_grouped, item_kind, kinds_of}
use Rattle.sql_check_parts.specs.Queries as typing
use Rattle.sql_check_parts.specs.Scopes.{grouping_of, row_of}
use Rattle.sql_check_laws.specs.Selects.{IsItemTyped, IsSelectTyped}
use Rattle.sql_meaning.specs.Selects.{grouped_rows}
use Rattle.sql_meaning.specs.Tables.{RowsFit}
use Rattle.sql_meaning.specs.Values.{at_rows}
use Rattle.sql_from.specs.Held.{base_held, tables_held}
use Rattle.sql_groups.specs.Items.{Around, around, groups_made, keys_in, row_of_key}
use Rattle.sql_from.specs.declared.tuple_rows.TupleRows.{TupleRows}
use Rattle.sql_groups.specs.Kept.{rows_of, scope_of, tables_of}
use Rattle.sql_groups.specs.Resolved.{AreLifted, IsResolved, group_sight}
use Rattle.sql_groups.specs.declared.items.GroupSelect.{GroupSelect}
use Rattle.sql_groups.proofs.Fitted.{made_rows_fit}
use Rattle.sql_groups.proofs.ResolvedLemmas.{groups_are, row_is}

lifted_many : (kinds own : List Kind) → AreLifted kinds own → length kinds ≡ length own
lifted_many [] [] up = refl
lifted_many [] (o ∷ os) up = absurd up
lifted_many (x ∷ xs) [] up = absurd up
lifted_many (x ∷ xs) (o ∷ os) up = ap suc (lifted_many xs os up.1)

module _ (p : Settings) (x : TupleRows) (s : SelectTree) (kinds : List Kind) (up : AreLifted kinds (kinds_of (tables_held x.sources.held) s)) where
  pub kinds_many : length kinds ≡ length s.items
  kinds_many = lifted_many kinds (kinds_of (tables_held x.sources.held) s) up ∙ length-map s.items (item_kind (typing.scope_of (tables_held x.sources.held) s))

  module _ (r : GroupSelect) (group : List Column) (at : group ≡ s.group) (resolved : IsResolved (group_sight p (tables_held x.sources.held) (scope_of x) s.group) (zip s.items kinds) s.having r) where
    stands : IsResolved (group_sight p (tables_held x.sources.held) (scope_of x) group) (zip s.items kinds) s.having r
    stands = subst (λ g. IsResolved (group_sight p (tables_held x.sources.held) (scope_of x) g) (zip s.items kinds) s.having r) (sym at) resolved

    abbrev a : Around
    a = around p x group

    pub made_are : groups_made a r (keys_in x group) ≡ grouped_rows (at_rows (base_held p x.sources.held) (scope_of x)) (zip s.items kinds) s.group s.having (rows_of x)
    made_are =
        groups_are (group_sight p (tables_held x.sources.held) (scope_of x) group) (tables_of x) a.members (zip s.items kinds) s.having r stands (keys_in x group)
        ∙ ap (λ g. grouped_rows (at_rows (base_held p x.sources.held) (scope_of x)) (zip s.items kinds) g s.having (rows_of x)) at

    pub made_fit : is_grouped s ≡ true → IsSelectTyped p (tables_held x.sources.held) s → scope_of x ≡ typing.scope_of (tables_held x.sources.held) s → RowsFit (row_of (scope_of x)) (rows_of x) → (columns : List TableColumn) → column_kinds columns ≡ kinds → AllByRecursion (λ key. fits columns (row_of_key a r key) ≡ true) (keys_in x group)
    made_fit grouped typed scope fit columns e =
        made_rows_fit (base_held p x.sources.held) (scope_of x) group (rows_of x) fit s.items kinds
        (subst (λ z. AreLifted kinds (map (item_kind z) s.items)) (sym scope) up) items columns e (row_of_key a r)
        (row_is (group_sight p (tables_held x.sources.held) (scope_of x) group) (tables_of x) a.members (zip s.items kinds) r.items.items stands.items_are)
      where
        items : AllByRecursion (IsItemTyped (site p (tables_held x.sources.held) (scope_of x)) (Some (grouping_of group))) s.items
        items =
            subst (λ z. AllByRecursion (IsItemTyped (site p (tables_held x.sources.held) z) (Some (grouping_of group))) s.items) (sym scope)
            (subst (λ g. AllByRecursion (IsItemTyped (site p (tables_held x.sources.held) (typing.scope_of (tables_held x.sources.held) s)) (Some (grouping_of g))) s.items) (sym at)
            (subst (λ b. AllByRecursion (IsItemTyped (site p (tables_held x.sources.held) (typing.scope_of (tables_held x.sources.held) s)) (cond b (Some (grouping_of s.group)) None)) s.items) grouped typed.items))
