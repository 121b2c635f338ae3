use Rattle.std.proofs.Common.{List, ap, map, sym, ◌∙◌}
use Rattle.vtl_tree.specs.Columns.{identifiers_of, measures_of}
use Rattle.vtl_tree.specs.NodeView.{point_rule_tree}
use Rattle.vtl_tree.specs.Shown.{shown}
use Rattle.vtl_tree.specs.declared.structure.Component.{Component}
use Rattle.sql_tree.specs.View.{select_tree}
use Rattle.rules_to_sql.specs.Items.{ruled_selects_as}
use Rattle.rules_to_sql.proofs.Forms.{datapoint_written}
use Rattle.rules_to_sql.proofs.point_queries.datapoint_query.Goals as goal

pub returns : goal.returns
returns c =
    let p = c.args.writer.now in
    let o = c.args.output in
    let a = c.args.a.now.structure.now in
    let s = c.args.s.now in
    let table = c.args.a.now.table.now in
    let rules = map point_rule_tree c.args.rules.now in
    let all = λ (ids ms ys : List Component). ruled_selects_as p o ids ms ys table 1 rules in
    ap (map select_tree) c.of.ensures
    ∙ c.in_ok-selects.ensures
    ∙ ap (λ ids. all ids (shown c.deref-2.result.now) (shown c.deref-3.result.now)) (ap shown c.deref.ensures.value ∙ c.in_ok-identifiers.ensures)
    ∙ ap (λ ms. all (identifiers_of a) ms (shown c.deref-3.result.now)) (ap shown c.deref-2.ensures.value ∙ c.in_ok-measures.ensures)
    ∙ ap (λ ys. all (identifiers_of a) (measures_of a) ys) (ap shown c.deref-3.ensures.value ∙ c.in_ok-columns.ensures)
    ∙ sym (datapoint_written p o a s table rules)
