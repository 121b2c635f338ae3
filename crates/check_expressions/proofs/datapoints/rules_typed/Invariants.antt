use Rattle.std.proofs.Common.{◌≡◌, drop, map}
use Rattle.vtl_syntax.specs.View.{point_rule_tree as written_rule}
use Rattle.vtl_tree.specs.NodeView.{point_rule_tree}
use Rattle.check_faults.specs.InTurn.{in_turn}
use Rattle.check_operators.specs.Places.{env_of}
use Rattle.check_expressions.specs.Rulesets.{point_rule_typed, point_rules_typed}
use Rattle.check_expressions.proofs.datapoints.rules_typed.Given as goal

abbrev pub invariant-loop-rule : goal.invariant-loop-rule
invariant-loop-rule l = in_turn (λ done r. point_rule_typed (env_of l.scope) l.place r) (map point_rule_tree l.typed.items) (map written_rule (drop l.rule-index l.rules)) ≡ point_rules_typed (env_of l.scope) l.place (map written_rule l.rules)
