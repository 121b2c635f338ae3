use Rattle.std.proofs.Common.{map}
use Rattle.vtl_syntax.specs.View.{point_rule_tree as written_rule}
use Rattle.vtl_tree.specs.NodeView.{point_rule_tree}
use Rattle.check_operators.specs.Places.{env_of}
use Rattle.check_expressions.specs.Rulesets.{point_rule_typed, point_rules_typed}
use Rattle.check_expressions.proofs.PointLemmas.{one_more}
use Rattle.check_expressions.proofs.datapoints.rules_typed.Goals as goal

pub loop-rule-preserved : goal.loop-rule-preserved
loop-rule-preserved c =
    one_more (point_rule_typed (env_of c.args.scope.now) c.args.place.now) written_rule point_rule_tree c.args.rules.now c.loop-rule.rule-index c.rule-item.result c.loop-rule.typed.items c.push.new.self.items c.in_ok-rule_typed.field-0 (point_rules_typed (env_of c.args.scope.now) c.args.place.now (map written_rule c.args.rules.now)) c.loop-rule-test.true c.rule-item.is c.in_ok-push.ensures.items c.in_ok-rule_typed.ensures c.loop-rule.invariant
