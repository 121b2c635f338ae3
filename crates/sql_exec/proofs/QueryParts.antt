-- The selects of a typed query.
use Rattle.std.proofs.Common.{◌≡◌, ℕ, suc, List, [], ◌∷◌, true, false, ◌&&◌, length, map, cond, Option, None, Some, Ok, Err, refl, sym, ap, ◌∙◌, subst}
use Rattle.std.specs.Prelude.{IfOk, zip}
use Rattle.std.specs.List.{AllByRecursion}
use Rattle.std.proofs.lemmas.List.{length-map}
use Rattle.vtl_cell.specs.Conversion.{as_kind}
use Rattle.vtl_cell.specs.Kinds.{is_of}
use Rattle.vtl_cell.specs.Outcome.{Outcome, after}
use Rattle.vtl_cell.specs.Row.{Row}
use Rattle.vtl_decimal.specs.Settings.{Settings}
use Rattle.vtl_cell.specs.declared.cell.Cell.{Cell}
use Rattle.vtl_cell.specs.declared.kind.Kind.{Kind}
use Rattle.vtl_rows.specs.Tables.{fits_kinds}
use Rattle.vtl_rows.proofs.Gathered.{null_is_of}
use Rattle.vtl_scalar.specs.KindLaws.{HasKind, IsOfKind}
use Rattle.sql_tree.specs.Trees as tree
use Rattle.sql_tree.specs.Trees.{ItemTree, QueryTree, SelectTree, ValueTree}
use Rattle.sql_check_parts.specs.Expressions.{Site, site}
use Rattle.sql_check_parts.specs.Queries as typing
use Rattle.sql_check_parts.specs.Queries.{is_grouped, item_kind, query_columns, scope_of, value_kind}
use Rattle.sql_check_parts.specs.Scopes.{Grouping, Scope, grouping_of, row_of}
use Rattle.sql_check_laws.specs.Selects.{IsItemTyped, IsQueryTyped, IsSelectTyped, IsValueTyped}
use Rattle.sql_meaning.specs.Selects.{Wanted, grouped_rows, item_value, plain_rows, row_value, second_phase}
use Rattle.sql_meaning.specs.Outcomes.{cell_or_null, row_at}
use Rattle.sql_meaning.specs.Tables.{Base, RowsFit, kinds_of}
use Rattle.sql_meaning.specs.Values.{View, at_rows, place_in}
use Rattle.sql_groups.specs.Resolved.{AreLifted}
use Rattle.sql_groups.proofs.LiftedLemmas.{all_are_lifted}
use Rattle.sql_meaning.proofs.ExpressionKinds.{value_has}
use Rattle.sql_meaning.proofs.Lists.{under}
use Rattle.sql_meaning.proofs.OperatorKinds.{after_if, as_kind_is_of}
use Rattle.sql_meaning.proofs.WindowKinds.{sees_row, window_has}
use Rattle.sql_exec.specs.Items.{HasCallKind, IsKindKnown}
use Rattle.sql_exec.specs.Parts.{IsPart, MakesKinds}

-- ---- the second phase, by whether the select is grouped

module _ (v : View) (items : List Wanted) (s : SelectTree) where
  pub phase_plain : (rows : List Row) → is_grouped s ≡ false → second_phase v items s rows ≡ plain_rows v items rows
  phase_plain rows e = ap (λ g. cond g (grouped_rows v items s.group s.having rows) (plain_rows v items rows)) e

  pub phase_grouped : (rows : List Row) → is_grouped s ≡ true → second_phase v items s rows ≡ grouped_rows v items s.group s.having rows
  phase_grouped rows e = ap (λ g. cond g (grouped_rows v items s.group s.having rows) (plain_rows v items rows)) e

-- ---- kinds of items

-- the windows of typed items take the kinds of their columns
pub kinds_known : (at : Site) (g : Option Grouping) (items : List ItemTree) → AllByRecursion (IsItemTyped at g) items → AllByRecursion (IsKindKnown at.scope) items
kinds_known at g items all = under (λ i h. known i.value h) items all
  where
    known : (w : ValueTree) → IsValueTyped at g w → HasCallKind at.scope w
    known (tree.expression e) h = tt
    known (tree.window w) h = h.kind

-- a row of items, each lifted to the kind of its column
module _ {X : Type 0} (p : Settings) (scope : Scope) (f : ValueTree → X → Outcome Cell) (x : X) where
  cell_fits : (kind : Kind) (m : Outcome Cell) → IfOk m (λ v. is_of kind v ≡ true) → is_of kind (cell_or_null m) ≡ true
  cell_fits kind (Ok v) h = h
  cell_fits kind (Err e) h = null_is_of kind

  row_fits : (items : List ItemTree) (kinds : List Kind) → AreLifted kinds (map (item_kind scope) items) → AllByRecursion (λ i. HasKind (item_kind scope i) (f i.value x)) items → fits_kinds kinds (row_at (λ i y. after (f i.0.value y) (as_kind p i.1)) (zip items kinds) x) ≡ true
  row_fits [] [] up all = refl
  row_fits [] (z ∷ kinds) up all = absurd up
  row_fits (i ∷ items) [] up all = absurd up
  row_fits (i ∷ items) (z ∷ kinds) up all =
      let one : is_of z (cell_or_null (after (f i.value x) (as_kind p z))) ≡ true = cell_fits z (after (f i.value x) (as_kind p z)) (after_if (f i.value x) (as_kind p z) (IsOfKind (item_kind scope i)) (λ v. is_of z v ≡ true) all.0 (λ v h. as_kind_is_of p z v (up.0 v h))) in
      λ n. one n && row_fits items kinds up.1 all.1 n

-- ---- typed selects

module _ (b : Base) where
  value_fits : (scope : Scope) (rows : List Row) → RowsFit (row_of scope) rows → (w : ValueTree) (x : Row × ℕ) → IsValueTyped (site b.settings b.tables scope) None w → fits_kinds (row_of scope) x.0 ≡ true → HasKind (value_kind scope w) (row_value (at_rows b scope) rows w x)
  value_fits scope rows all (tree.expression e) x h fit = value_has b scope (place_in scope) None e x.0 [] h (sees_row b scope x.0 fit) tt
  value_fits scope rows all (tree.window w) x h fit = window_has b scope rows all w x h

  lifted_many : (xs os : List Kind) → AreLifted xs os → length xs ≡ length os
  lifted_many [] [] up = refl
  lifted_many [] (o ∷ os) up = absurd up
  lifted_many (x ∷ xs) [] up = absurd up
  lifted_many (x ∷ xs) (o ∷ os) up = ap suc (lifted_many xs os up.1)

  module _ (kinds : List Kind) (s : SelectTree) (part : IsPart b kinds s) where
    -- there is a kind for each item
    pub part_many : length kinds ≡ length s.items
    part_many = lifted_many kinds (typing.kinds_of b.tables s) part.lifted ∙ length-map s.items (item_kind (scope_of b.tables s))

    -- over a scope that is that of the select
    pub plain_typed : (scope : Scope) → scope ≡ scope_of b.tables s → is_grouped s ≡ false → AllByRecursion (IsItemTyped (site b.settings b.tables scope) None) s.items
    plain_typed scope e g =
        subst (λ z. AllByRecursion (IsItemTyped (site b.settings b.tables z) None) s.items) (sym e)
        (subst (λ q. AllByRecursion (IsItemTyped (site b.settings b.tables (scope_of b.tables s)) (cond q (Some (grouping_of s.group)) None)) s.items) g part.typed.items)

    pub plain_makes : (scope : Scope) → scope ≡ scope_of b.tables s → is_grouped s ≡ false → MakesKinds scope kinds (λ rows. row_at (item_value (at_rows b scope) rows) (zip s.items kinds))
    plain_makes scope e g rows x all fit =
        let up : AreLifted kinds (map (item_kind scope) s.items) = subst (λ z. AreLifted kinds (map (item_kind z) s.items)) (sym e) part.lifted in
        row_fits b.settings scope (row_value (at_rows b scope) rows) x s.items kinds up (under (λ i h. value_fits scope rows all i.value x h fit) s.items (plain_typed scope e g))

  parts_are : (kinds : List Kind) (q : QueryTree) → AllByRecursion (IsSelectTyped b.settings b.tables) q → AllByRecursion (λ s. AreLifted kinds (typing.kinds_of b.tables s)) q → AllByRecursion (IsPart b kinds) q
  parts_are kinds [] h up = tt
  parts_are kinds (s ∷ ss) h up = (record { typed = h.0; lifted = up.0 }, parts_are kinds ss h.1 up.1)

  -- each select of a query is a part of it
  pub query_parts : (q : QueryTree) → IsQueryTyped b.settings b.tables q → AllByRecursion (IsPart b (kinds_of (query_columns b.tables q))) q
  query_parts q h = parts_are (kinds_of (query_columns b.tables q)) q h.selects (all_are_lifted b.settings b.tables q h)
