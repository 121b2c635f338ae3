use Rattle.std.proofs.Common.{◌≡◌, map, take}
use Rattle.vtl_syntax.specs.View.{point_rule_tree}
use Rattle.syntax_copies.proofs.statements.point_rules.Given as goal

abbrev pub invariant-loop-rule : goal.invariant-loop-rule
invariant-loop-rule l = map point_rule_tree l.copies.items ≡ map point_rule_tree (take l.rule-index l.rules)
