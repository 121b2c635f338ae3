use Rattle.std.proofs.Common.{ℕ, ◌+◌, List, [], ◌∷◌, ◌++◌, ap, map, sym, take, ◌∙◌}
use Rattle.std.proofs.lemmas.List.{map-append}
use Rattle.vtl_tree.specs.NodeView.{point_rule_tree}
use Rattle.vtl_tree.specs.Shown.{shown}
use Rattle.vtl_tree.specs.Checks.{rule_id}
use Rattle.sql_tree.specs.Trees.{SelectTree}
use Rattle.sql_tree.specs.View.{select_tree}
use Rattle.rules_to_sql.specs.Items.{ruled_select_as, ruled_selects_as}
use Rattle.rules_to_sql.proofs.Numbered.{selects_more}
use Rattle.rules_to_sql.proofs.point_queries.ruled_selects.Goals as goal

pub loop-rule-preserved : goal.loop-rule-preserved
loop-rule-preserved c =
    let p = c.args.writer.now in
    let o = c.args.output in
    let ids = shown c.args.identifiers.now in
    let ms = shown c.args.measures.now in
    let ys = shown c.args.columns.now in
    let table = c.args.table.now in
    let rules = c.args.rules.now in
    let i = c.loop-rule.rule-index in
    let rule = c.rule-item.result in
    let select = c.in_ok-ruled_select.field-0 in
    let number = ap (λ (n : ℕ). n + 1) c.loop-rule.invariant.0 in
    let written = λ (n : ℕ). ruled_select_as p o ids ms ys table (rule_id n rule.name, point_rule_tree rule) in
    let done = ruled_selects_as p o ids ms ys table 1 (map point_rule_tree (take i rules)) in (
      number,
      ap (map select_tree) c.in_ok-push.ensures.items
          ∙ map-append select_tree c.loop-rule.selects.items (select ∷ [])
          ∙ ap (λ (l : List SelectTree). l ++ select_tree select ∷ []) c.loop-rule.invariant.1
          ∙ ap (λ (x : SelectTree). done ++ x ∷ []) (c.in_ok-ruled_select.ensures ∙ ap written number)
          ∙ sym (selects_more p o ids ms ys table rules i rule c.loop-rule-test.true c.rule-item.is),
    )
