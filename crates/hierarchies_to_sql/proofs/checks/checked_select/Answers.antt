use Rattle.std.proofs.Common.{List, ap, length, map, ◌∙◌}
use Rattle.std.specs.Option.{option_map}
use Rattle.std.proofs.lemmas.Result.{IfOk-weaker}
use Rattle.vtl_tree.specs.Checks.{rule_id}
use Rattle.vtl_tree.specs.Shown.{shown}
use Rattle.vtl_tree.specs.declared.structure.Component.{Component}
use Rattle.sql_tree.specs.Trees.{Text}
use Rattle.sql_tree.specs.View.{expr_tree, item_tree}
use Rattle.selects_to_sql.specs.Queries.{select_as, source_as}
use Rattle.hierarchies_to_sql.specs.RuleItems.{aliases_from, joins_as, ruled_of, tables_in}
use Rattle.hierarchies_to_sql.proofs.CheckForms.{select_is}
use Rattle.hierarchies_to_sql.proofs.checks.checked_select.Goals as goal

pub returns : goal.returns
returns c =
    let tabled = c.args.tabled.now in
    let rule = c.args.rule.now in
    let keys = tabled.keys in
    let others = shown tabled.others.items in
    let f = tables_in tabled.tables in
    let first = c.in_ok-first.first in
    let aliases = c.deref-2.result.now in
    let es = map item_tree c.in_ok-shown.shown.items in
    let w = option_map expr_tree c.in_ok-condition.condition in
    IfOk-weaker c.beside.result _ _
    (λ x e.
    e
    ∙ ap (λ (ys : List Component). select_as es (source_as first keys) (joins_as first ys aliases c.deref-5.result.now) w) (ap shown c.deref-4.ensures.value)
    ∙ ap (λ (l : List Text). select_as es (source_as first keys) (joins_as first others aliases l) w) c.deref-5.ensures.value
    ∙ select_is c.args.writer.now (ruled_of tabled.measured) c.args.mode keys others f c.args.output (shown c.args.columns.now.identifiers.now) (shown c.args.columns.now.result.now) (rule_id c.args.number rule.name) rule first c.in_ok-id.id aliases c.in_ok-names.names.items c.in_ok-tables.tables.items es w
    c.in_ok-first.ensures c.in_ok-id.ensures c.in_ok-names.ensures (c.deref-2.ensures.value ∙ c.in_ok-aliases.ensures ∙ ap (λ (l : List Text). aliases_from 1 (length l)) c.deref.ensures.value) (c.in_ok-tables.ensures ∙ ap (map f) c.deref-3.ensures.value) c.in_ok-shown.ensures c.in_ok-condition.ensures) c.beside.ensures
