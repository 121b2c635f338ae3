use Rattle.std.proofs.Common.{◌≡◌, ◌∙◌, ◌<◌, length, map, sym, ap, subst, arith}
use Rattle.std.specs.Prelude.{IfOk}
use Rattle.std.proofs.lemmas.List.{length-map}
use Rattle.std.specs.List.{AllByRecursion}
use Rattle.vtl_rows.specs.Named.{NamedTables}
use Rattle.vtl_scalar.specs.Answers.{AnswersBy}
use Rattle.sql_tree.specs.Trees.{QueryTree, SelectTree}
use Rattle.sql_tree.specs.View.{query_tree, select_tree}
use Rattle.sql_check_parts.specs.Queries.{scope_of}
use Rattle.sql_check_laws.specs.Selects.{IsSelectTyped}
use Rattle.sql_meaning.specs.From.{source_rows}
use Rattle.sql_from.specs.Columns.{source_columns}
use Rattle.sql_from.specs.FromTables.{from_given}
use Rattle.sql_from.specs.Held.{base_held, tables_held}
use Rattle.sql_exec.proofs.FromEach.{only_select}
use Rattle.sql_exec.proofs.Steps.{holds_mapped}
use Rattle.sql_exec.proofs.queries.source_rows.Goals as goal

pub source_rows-requires-clause-typed : goal.source_rows-requires-clause-typed
source_rows-requires-clause-typed g c =
    let selects = c.as_slice-selects.result.now in
    let typed = IsSelectTyped c.args.p.now (tables_held c.args.tables.now) in
    let is : map select_tree selects ≡ query_tree c.args.plan.now.query = ap (map select_tree) c.as_slice-selects.ensures ∙ ap query_tree c.query.ensures.query in
    let many = ap (λ (q : QueryTree). length q) is in
    let long = length-map selects select_tree in
    let some : 0 < length selects = omega (arith, many, long, c.requires.one) in
    subst (λ (h : NamedTables). IsSelectTyped c.args.p.now (tables_held h) (select_tree c.index-selects-0.result)) (sym c.in_ok-given.ensures)
    (holds_mapped typed select_tree selects 0 c.index-selects-0.result (subst (AllByRecursion typed) (sym is) c.requires.typed.selects) some c.index-selects-0.is)

pub source_rows-requires-clause-from : goal.source_rows-requires-clause-from
source_rows-requires-clause-from g c = c.in_ok-from.ensures ∙ ap (λ (h : NamedTables). from_given h (select_tree c.index-selects-0.result)) (sym c.in_ok-given.ensures)

pub returns-clause-columns : goal.returns-clause-columns
returns-clause-columns g c s one =
    let is : map select_tree c.as_slice-selects.result.now ≡ query_tree c.args.plan.now.query = ap (map select_tree) c.as_slice-selects.ensures ∙ ap query_tree c.query.ensures.query in
    let same : select_tree c.index-selects-0.result ≡ s = only_select c.as_slice-selects.result.now c.index-selects-0.result s (is ∙ one) c.index-selects-0.is in
    subst (λ (h : NamedTables). IfOk c.source_rows.result (λ t. t.columns ≡ source_columns (scope_of (tables_held h) s))) c.in_ok-given.ensures
    (subst (λ (z : SelectTree). IfOk c.source_rows.result (λ t. t.columns ≡ source_columns (scope_of (tables_held c.in_ok-given.given) z))) same c.source_rows.ensures.columns)

pub returns-clause-rows : goal.returns-clause-rows
returns-clause-rows g c s one =
    let is : map select_tree c.as_slice-selects.result.now ≡ query_tree c.args.plan.now.query = ap (map select_tree) c.as_slice-selects.ensures ∙ ap query_tree c.query.ensures.query in
    let same : select_tree c.index-selects-0.result ≡ s = only_select c.as_slice-selects.result.now c.index-selects-0.result s (is ∙ one) c.index-selects-0.is in
    subst (λ (h : NamedTables). AnswersBy (λ t. t.rows) c.source_rows.result (source_rows (base_held c.args.p.now h) s)) c.in_ok-given.ensures
    (subst (λ (z : SelectTree). AnswersBy (λ t. t.rows) c.source_rows.result (source_rows (base_held c.args.p.now c.in_ok-given.given) z)) same c.source_rows.ensures.rows)
