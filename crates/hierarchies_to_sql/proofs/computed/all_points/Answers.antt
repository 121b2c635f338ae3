use Rattle.std.proofs.Common.{◌++◌, ◌∷◌, [], List, ap, map, sym, take, ◌∙◌}
use Rattle.std.proofs.lemmas.List.{map-append}
use Rattle.vtl_tree.specs.Shown.{shown}
use Rattle.sql_tree.specs.Trees.{SelectTree}
use Rattle.sql_tree.specs.View.{select_tree}
use Rattle.hierarchies_to_sql.specs.RuleItems.{points_as, ruled_of, tables_in}
use Rattle.hierarchies_to_sql.proofs.RunForms.{shown_more}
use Rattle.hierarchies_to_sql.proofs.computed.all_points.Goals as goal

pub loop-rule-preserved : goal.loop-rule-preserved
loop-rule-preserved c =
    let rules = c.args.rules.now in
    let i = c.loop-rule.rule-index in
    let rule = c.rule-item.result in
    let f = points_as (ruled_of c.args.measured.now) (shown c.args.identifiers.now) (shown c.args.columns.now) (tables_in c.args.computed.now) in
    let select = c.in_ok-points_select.field-0 in
    ap (map select_tree) c.in_ok-push.ensures.items
    ∙ map-append select_tree c.loop-rule.selects.items (select ∷ [])
    ∙ ap (λ (l : List SelectTree). l ++ select_tree select ∷ []) c.loop-rule.invariant
    ∙ ap (λ (x : SelectTree). map f (shown (take i rules)) ++ x ∷ []) c.in_ok-points_select.ensures
    ∙ sym (ap (map f) (shown_more rules i rule c.loop-rule-test.true c.rule-item.is) ∙ map-append f (shown (take i rules)) (rule.now ∷ []))
