use Rattle.std.proofs.Common.{ℕ, ◌+◌, List, [], ◌∷◌, ◌++◌, ap, map, sym, take, ◌∙◌}
use Rattle.std.proofs.lemmas.List.{map-append}
use Rattle.vtl_tree.specs.Checks.{rule_id}
use Rattle.vtl_tree.specs.Shown.{shown}
use Rattle.sql_tree.specs.Trees.{SelectTree}
use Rattle.sql_tree.specs.View.{select_tree}
use Rattle.selects_to_sql.specs.Queries.{alias_of}
use Rattle.hierarchies_to_sql.specs.RuleItems.{checked_select_as, checked_selects_as, ruled_of, tables_in}
use Rattle.hierarchies_to_sql.proofs.CheckForms.{selects_more}
use Rattle.hierarchies_to_sql.proofs.checks.checked_selects.Goals as goal

pub loop-rule-preserved : goal.loop-rule-preserved
loop-rule-preserved c =
    let p = c.args.writer.now in
    let tabled = c.args.tabled.now in
    let h = ruled_of tabled.measured in
    let m = c.args.mode in
    let o = c.args.output in
    let keys = tabled.keys in
    let others = shown tabled.others.items in
    let f = tables_in tabled.tables in
    let ids = shown c.args.columns.now.identifiers.now in
    let ys = shown c.args.columns.now.result.now in
    let rules = c.args.rules.now in
    let i = c.loop-rule.rule-index in
    let rule = c.rule-item.result in
    let select = c.in_ok-checked_select.field-0 in
    let number = ap (λ (n : ℕ). n + 1) c.loop-rule.invariant.0 in
    let written = λ (n : ℕ). checked_select_as p h m (alias_of 0) keys others f o ids ys (rule_id n rule.name, rule) in
    let done = checked_selects_as p h m (alias_of 0) keys others f o ids ys 1 (take i rules) in (
      number,
      ap (map select_tree) c.in_ok-push.ensures.items
          ∙ map-append select_tree c.loop-rule.selects.items (select ∷ [])
          ∙ ap (λ (l : List SelectTree). l ++ select_tree select ∷ []) c.loop-rule.invariant.1
          ∙ ap (λ (x : SelectTree). done ++ x ∷ []) (c.in_ok-checked_select.ensures ∙ ap written number)
          ∙ sym (selects_more p h m keys others f o ids ys rules i rule c.loop-rule-test.true c.rule-item.is),
    )
