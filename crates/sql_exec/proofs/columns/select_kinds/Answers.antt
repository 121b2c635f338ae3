use Rattle.std.proofs.Common.{◌≡◌, ◌∙◌, ◌+◌, [], ◌∷◌, ◌++◌, ◌<◌, ◌≤◌, List, Option, get_or, length, ap, sym, subst, map, drop, drop_of_length-le, arith}
use Rattle.std.specs.List.{AllByRecursion}
use Rattle.sql_tree.specs.View.{item_tree, join_tree, select_tree}
use Rattle.sql_tree.specs.declared.statements.Item.{Item}
use Rattle.sql_tree.specs.declared.statements.Join.{Join}
use Rattle.sql_check_parts.specs.Queries.{first_scope, groups_of, join_source, joined_scope, scope_of}
use Rattle.sql_check_parts.specs.Expressions.{site}
use Rattle.sql_check_parts.specs.Scopes.{Scope, with_source}
use Rattle.sql_check_laws.specs.Selects.{AreJoinsTyped, IsSourceTyped}
use Rattle.sql_from.specs.Held.{tables_held}
use Rattle.sql_tree.specs.declared.parts.Source.{Source}
use Rattle.sql_from.specs.Sources.{scope_held, table_given}
use Rattle.sql_exec.specs.Items.{IsKindKnown}
use Rattle.sql_from.specs.FromTables.{from_at, maybe_given}
use Rattle.vtl_rows.specs.Named.{NamedTables}
use Rattle.vtl_rows.specs.Tables.{Listed}
use Rattle.sql_exec.proofs.FromEach.{from_join}
use Rattle.sql_exec.proofs.QueryParts.{kinds_known}
use Rattle.sql_exec.proofs.QueryColumns.{drop_read, scope_with}
use Rattle.sql_exec.proofs.columns.select_kinds.Goals as goal

pub loop-place-init : goal.loop-place-init
loop-place-init c =
    let s = select_tree c.args.select.now in
    let tables = tables_held c.args.tables.now in
    let before = c.over.result in
    let given : tables_held before.held ≡ tables = ap tables_held c.over.ensures.held in
    let none : scope_held before.sources ≡ [] = ap scope_held c.over.ensures.sources in
    let typed : IsSourceTyped (tables_held before.held) (scope_held before.sources) s.source = subst (λ t. IsSourceTyped t (scope_held before.sources) s.source) (sym given) (subst (λ scope. IsSourceTyped tables scope s.source) (sym none) c.requires.typed.source) in
    let first : scope_held c.in_ok-sources.sources.sources ≡ first_scope tables s =
    scope_with before c.in_ok-sources.sources s.source typed c.in_ok-sources.ensures.sources ∙ (λ i. with_source (given i) (none i) s.source) in
    record {
      held = c.in_ok-sources.ensures.held ∙ c.over.ensures.held;
      typed = subst (λ scope. AreJoinsTyped c.args.p.now tables scope s.joins) (sym first) c.requires.typed.joins;
      scope = ap (λ scope. joined_scope tables scope s.joins) first;
    }

pub loop-place-preserved : goal.loop-place-preserved
loop-place-preserved c =
    let joins = c.args.select.now.joins in
    let tables = tables_held c.args.tables.now in
    let before = c.loop-place.sources in
    let i = c.loop-place.place in
    let join = c.index-joins-place.result in
    let rest = map join_tree (drop (i + 1) joins) in
    let given : tables_held before.held ≡ tables = ap tables_held c.loop-place.invariant.held in
    let read : map join_tree (drop i joins) ≡ join_tree join ∷ rest =
    subst (λ (js : List Join). map join_tree (drop i js) ≡ join_tree join ∷ map join_tree (drop (i + 1) js)) c.as_slice-joins.ensures (ap (map join_tree) (drop_read c.as_slice-joins.result.now i join c.loop-place-test.true c.index-joins-place.is)) in
    let typed : AreJoinsTyped c.args.p.now tables (scope_held before.sources) (join_tree join ∷ rest) = subst (AreJoinsTyped c.args.p.now tables (scope_held before.sources)) read c.loop-place.invariant.typed in
    let source = join_source (join_tree join) in
    let new : IsSourceTyped (tables_held before.held) (scope_held before.sources) source = subst (λ t. IsSourceTyped t (scope_held before.sources) source) (sym given) typed.0 in
    let put : c.in_ok-sources-2.sources.sources ≡ before.sources ++ (source.alias, table_given before.held source) ∷ [] =
    c.in_ok-sources-2.ensures.sources ∙ ap (λ (j : Source). before.sources ++ (j.alias, table_given before.held j) ∷ []) c.join_source-source.ensures in
    let next : scope_held c.in_ok-sources-2.sources.sources ≡ with_source tables (scope_held before.sources) source =
    scope_with before c.in_ok-sources-2.sources source new put ∙ ap (λ t. with_source t (scope_held before.sources) source) given in
    record {
      held = c.in_ok-sources-2.ensures.held ∙ c.loop-place.invariant.held;
      typed = subst (λ (scope : Scope). AreJoinsTyped c.args.p.now tables scope rest) (sym next) typed.2;
      scope = ap (λ (scope : Scope). joined_scope tables scope rest) next ∙ sym (ap (joined_scope tables (scope_held before.sources)) read) ∙ c.loop-place.invariant.scope;
    }

pub item_kinds-requires : goal.item_kinds-requires
item_kinds-requires c =
    let s = select_tree c.args.select.now in
    let tables = tables_held c.args.tables.now in
    let sources = c.loop-place.sources in
    let joins = c.args.select.now.joins in
    let i = c.loop-place.place in
    let long = ap (λ (js : List Join). length js) c.as_slice-joins.ensures in
    let last : length joins ≤ i = omega (arith, c.loop-place-test.false, long) in
    let none : drop i joins ≡ [] = drop_of_length-le joins last in
    let whole : scope_held sources.sources ≡ scope_of tables s = sym (ap (λ (js : List Join). joined_scope tables (scope_held sources.sources) (map join_tree js)) none) ∙ c.loop-place.invariant.scope in
    subst (λ (items : List Item). AllByRecursion (IsKindKnown (scope_held sources.sources)) (map item_tree items)) (sym c.as_slice.ensures)
    (subst (λ (scope : Scope). AllByRecursion (IsKindKnown scope) s.items) (sym whole) (kinds_known (site c.args.p.now tables (scope_of tables s)) (groups_of s) s.items c.requires.typed.items))

pub with-requires-clause-table : goal.with-requires-clause-table
with-requires-clause-table c =
    c.at.ensures ∙ ap (λ (l : List (Option Listed)). from_at l 0) c.requires.from
    ∙ ap (λ (h : NamedTables). maybe_given h (select_tree c.args.select.now).source) (sym c.over.ensures.held)

pub with-requires-in-loop-place-clause-table : goal.with-requires-in-loop-place-clause-table
with-requires-in-loop-place-clause-table c =
    let s = select_tree c.args.select.now in
    let joins = c.args.select.now.joins in
    let i = c.loop-place.place in
    let join = c.index-joins-place.result in
    let long = ap (λ (js : List Join). length js) c.as_slice-joins.ensures in
    let here : i < length joins = omega (arith, c.loop-place-test.true, long) in
    let read = from_join c.args.tables.now s.source joins i join here (c.index-joins-place.is ∙ ap (λ (js : List Join). get_or js i join) c.as_slice-joins.ensures) in
    c.at-in-loop-place.ensures ∙ ap (λ (l : List (Option Listed)). from_at l (i + 1)) c.requires.from ∙ read
    ∙ (λ j. maybe_given (sym c.loop-place.invariant.held j) (sym c.join_source-source.ensures j))

pub with-requires-in-loop-place-clause-typed : goal.with-requires-in-loop-place-clause-typed
with-requires-in-loop-place-clause-typed c =
    let joins = c.args.select.now.joins in
    let tables = tables_held c.args.tables.now in
    let before = c.loop-place.sources in
    let i = c.loop-place.place in
    let join = c.index-joins-place.result in
    let rest = map join_tree (drop (i + 1) joins) in
    let read : map join_tree (drop i joins) ≡ join_tree join ∷ rest =
    subst (λ (js : List Join). map join_tree (drop i js) ≡ join_tree join ∷ map join_tree (drop (i + 1) js)) c.as_slice-joins.ensures (ap (map join_tree) (drop_read c.as_slice-joins.result.now i join c.loop-place-test.true c.index-joins-place.is)) in
    let typed : AreJoinsTyped c.args.p.now tables (scope_held before.sources) (join_tree join ∷ rest) = subst (AreJoinsTyped c.args.p.now tables (scope_held before.sources)) read c.loop-place.invariant.typed in
    subst (IsSourceTyped (tables_held before.held) (scope_held before.sources)) (sym c.join_source-source.ensures)
    (subst (λ t. IsSourceTyped t (scope_held before.sources) (join_source (join_tree join))) (sym (ap tables_held c.loop-place.invariant.held)) typed.0)
