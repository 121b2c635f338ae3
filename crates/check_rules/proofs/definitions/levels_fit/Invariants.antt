use Rattle.std.proofs.Common.{◌≡◌, map, drop}
use Rattle.std.specs.List.{list_all}
use Rattle.vtl_syntax.specs.View.{point_rule_tree}
use Rattle.check_rules.specs.Definitions.{level_fits, point_rule_error}
use Rattle.check_rules.proofs.definitions.levels_fit.Given as goal

abbrev pub invariant-loop-rule : goal.invariant-loop-rule
invariant-loop-rule l = list_all (λ r. level_fits l.profile (point_rule_error r)) (map point_rule_tree (drop l.rule-index l.rules)) ≡ list_all (λ r. level_fits l.profile (point_rule_error r)) (map point_rule_tree l.rules)
