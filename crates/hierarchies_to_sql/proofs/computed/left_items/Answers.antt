use Rattle.std.proofs.Common.{◌++◌, ◌∷◌, [], List, ap, map, sym, take, ◌∙◌}
use Rattle.std.proofs.lemmas.List.{map-append}
use Rattle.vtl_tree.specs.RuleItems.{left_item}
use Rattle.vtl_tree.specs.Shown.{shown}
use Rattle.sql_tree.specs.Trees.{Text}
use Rattle.hierarchies_to_sql.proofs.RunForms.{shown_more}
use Rattle.hierarchies_to_sql.proofs.computed.left_items.Goals as goal

pub loop-rule-preserved : goal.loop-rule-preserved
loop-rule-preserved c =
    let rules = c.args.rules.now in
    let i = c.loop-rule.rule-index in
    let rule = c.rule-item.result in
    c.in_ok-push.ensures.items
    ∙ ap (λ (l : List Text). l ++ c.in_ok-share.field-0 ∷ []) c.loop-rule.invariant
    ∙ ap (λ (t : Text). map left_item (shown (take i rules)) ++ t ∷ []) (c.in_ok-share.ensures ∙ c.left_item.ensures)
    ∙ sym (ap (map left_item) (shown_more rules i rule c.loop-rule-test.true c.rule-item.is) ∙ map-append left_item (shown (take i rules)) (rule.now ∷ []))
