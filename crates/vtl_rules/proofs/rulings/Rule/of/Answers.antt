use Rattle.std.specs.Option.{option_map}
use Rattle.vtl_tree.specs.View.{comp_exp_of}
use Rattle.vtl_tree.specs.NodeView.{point_rule_tree}
use Rattle.vtl_expr.specs.Prepared.{prepared_exp}
use Rattle.vtl_tree.specs.Checks.{rule_id}
use Rattle.vtl_rules.specs.Rulings.{ruling, ruling_of}
use Rattle.vtl_rules.proofs.RulingLemmas.{rulings_same, truth_same}
use Rattle.vtl_rules.proofs.rulings.Rule.of.Goals as goal

pub returns : goal.returns
returns c =
    let rule = c.args.rule.now in
    let kept = ruling (record { id = c.in_ok-rule_id.field-0; antecedent = c.in_ok-prepare_some.field-0; condition = c.in_ok-prepare.field-0; errors = c.in_ok-of.field-0 }) in
    rulings_same kept (ruling_of (rule_id c.args.number rule.name, point_rule_tree rule)) c.in_ok-rule_id.ensures
    (truth_same (option_map prepared_exp c.in_ok-prepare_some.field-0) (option_map comp_exp_of rule.antecedent) (prepared_exp c.in_ok-prepare.field-0) (comp_exp_of rule.condition) c.in_ok-prepare_some.ensures c.in_ok-prepare.ensures)
    c.in_ok-of.ensures.code c.in_ok-of.ensures.level
