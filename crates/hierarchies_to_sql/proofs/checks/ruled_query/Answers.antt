use Rattle.std.proofs.Common.{map, ◌∙◌}
use Rattle.std.proofs.lemmas.Result.{IfOk-weaker}
use Rattle.vtl_tree.specs.Shown.{shown}
use Rattle.sql_tree.specs.View.{query_tree, statement_tree}
use Rattle.hierarchies_to_sql.specs.RuleItems.{ruled_of}
use Rattle.hierarchies_to_sql.proofs.CheckForms.{last_is, query_is, tables_are}
use Rattle.hierarchies_to_sql.proofs.checks.ruled_query.Goals as goal

pub returns-clause-query : goal.returns-clause-query
returns-clause-query c =
    let tabled = c.in_ok-tabled.tabled in
    IfOk-weaker c.checked_query.result _ _
    (λ q e.
    query_is c.args.writer.now c.args.target.now (ruled_of c.args.measured) c.args.a.now.structure.now c.args.a.now.table.now c.args.draft.now.next c.args.mode c.args.output c.args.rules.now c.args.s.now c.deref.result.now (c.deref.ensures.value ∙ c.in_ok-items.ensures)
    (query_tree q) (ruled_of tabled.measured) tabled.keys (shown tabled.others.items) tabled.tables e c.in_ok-tabled.ensures.measured c.in_ok-tabled.ensures.keys c.in_ok-tabled.ensures.others c.in_ok-tabled.ensures.names) c.checked_query.ensures

pub returns-clause-tables : goal.returns-clause-tables
returns-clause-tables c =
    let fact =
    tables_are c.args.writer.now c.args.target.now (ruled_of c.args.measured) c.args.a.now.structure.now c.args.a.now.table.now c.args.draft.now.next c.args.mode c.args.output c.args.rules.now c.args.s.now c.deref.result.now (c.deref.ensures.value ∙ c.in_ok-items.ensures)
    (map statement_tree c.args.draft.now.statements.items) (map statement_tree c.tabled.new.draft.statements.items) c.in_ok-tabled.ensures.tables
    in
    IfOk-weaker c.checked_query.result _ _ (λ q e. fact) c.checked_query.ensures

pub returns-clause-next : goal.returns-clause-next
returns-clause-next c =
    let fact =
    last_is c.args.writer.now c.args.target.now (ruled_of c.args.measured) c.args.a.now.structure.now c.args.a.now.table.now c.args.draft.now.next c.args.mode c.args.output c.args.rules.now c.args.s.now c.deref.result.now (c.deref.ensures.value ∙ c.in_ok-items.ensures)
    c.tabled.new.draft.next c.in_ok-tabled.ensures.next
    in
    IfOk-weaker c.checked_query.result _ _ (λ q e. fact) c.checked_query.ensures
