use Rattle.std.proofs.Common.{◌++◌, [], List, ap, sym, take, ◌∙◌}
use Rattle.std.specs.List.{flat_map}
use Rattle.std.proofs.lemmas.List.{flat_map_more}
use Rattle.vtl_tree.specs.RuleItems.{right_items}
use Rattle.vtl_tree.specs.Shown.{shown}
use Rattle.sql_tree.specs.Trees.{Text}
use Rattle.hierarchies_to_sql.proofs.RunForms.{shown_more}
use Rattle.hierarchies_to_sql.proofs.computed.all_right.Goals as goal

pub loop-rule-preserved : goal.loop-rule-preserved
loop-rule-preserved c =
    let rules = c.args.rules.now in
    let i = c.loop-rule.rule-index in
    let rule = c.rule-item.result in
    c.in_ok-push_right_items.ensures
    ∙ ap (λ (l : List Text). l ++ right_items rule.now) c.loop-rule.invariant
    ∙ flat_map_more right_items [] (shown (take i rules)) rule.now
    ∙ ap (flat_map right_items) (sym (shown_more rules i rule c.loop-rule-test.true c.rule-item.is))
