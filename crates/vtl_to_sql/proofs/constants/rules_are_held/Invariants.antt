use Rattle.std.proofs.Common.{drop}
use Rattle.std.specs.List.{AllByRecursion}
use Rattle.vtl_tree.specs.NodeView.{point_rule_tree}
use Rattle.vtl_to_sql.specs.Accepted.{RuleHoldsValues}
use Rattle.vtl_to_sql.proofs.constants.rules_are_held.Given as goal

abbrev pub invariant-loop-rule : goal.invariant-loop-rule
invariant-loop-rule l = AllByRecursion (λ r. RuleHoldsValues (point_rule_tree r)) (drop l.rule-index l.rules) → AllByRecursion (λ r. RuleHoldsValues (point_rule_tree r)) l.rules
