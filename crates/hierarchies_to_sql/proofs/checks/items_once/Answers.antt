use Rattle.std.proofs.Common.{List, [], ◌∷◌, ◌++◌, ap, sym, take, ◌∙◌}
use Rattle.std.specs.List.{flat_map}
use Rattle.std.proofs.lemmas.List.{flat_map_more, take_all, take_more}
use Rattle.std.proofs.lemmas.Result.{IfOk-weaker}
use Rattle.vtl_syntax.specs.declared.statements.HierRule.{HierRule}
use Rattle.vtl_tree.specs.RuleItems.{items_of}
use Rattle.vtl_tree.specs.Structure.{same_name}
use Rattle.vtl_tuples.specs.Keys.{each_once}
use Rattle.sql_tree.specs.Trees.{Text}
use Rattle.hierarchies_to_sql.proofs.checks.items_once.Goals as goal

pub loop-rule-preserved : goal.loop-rule-preserved
loop-rule-preserved c =
    let rules = c.args.rules.now in
    let i = c.loop-rule.rule-index in
    let rule = c.rule-item.result in
    c.in_ok-push_items.ensures
    ∙ ap (λ (l : List Text). l ++ items_of rule) c.loop-rule.invariant
    ∙ flat_map_more items_of [] (take i rules) rule
    ∙ ap (flat_map items_of) (ap (λ (z : HierRule). take i rules ++ z ∷ []) c.rule-item.is ∙ sym (take_more rules i rule c.loop-rule-test.true))

pub returns : goal.returns
returns c =
    IfOk-weaker c.each_once.result _ _
    (λ v e. e ∙ ap (each_once same_name) (c.deref.ensures.value ∙ c.loop-rule.invariant ∙ ap (flat_map items_of) (take_all c.loop-rule.rule-index c.args.rules.now c.loop-rule-test.false))) c.each_once.ensures
