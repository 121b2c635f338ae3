use Rattle.std.proofs.Common.{◌≡◌, drop}
use Rattle.check_rules.specs.Definitions.{hier_rules_defined}
use Rattle.check_rules.proofs.definitions.hier_rules_defined.Given as goal

abbrev pub invariant-loop-rule : goal.invariant-loop-rule
invariant-loop-rule l = hier_rules_defined l.profile (drop l.rule-index l.rules) ≡ hier_rules_defined l.profile l.rules
