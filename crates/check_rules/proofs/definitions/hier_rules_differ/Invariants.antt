use Rattle.std.proofs.Common.{◌≡◌, ◌+◌, ◌++◌, map, drop, length}
use Rattle.check_rules.specs.Definitions.{identifiers, identifiers_from}
use Rattle.check_rules.proofs.definitions.hier_rules_differ.Given as goal

abbrev pub invariant-loop-rule : goal.invariant-loop-rule
invariant-loop-rule l = l.identifiers.items ++ identifiers_from (length l.identifiers.items + 1) (map (λ r. r.name) (drop l.rule-index l.rules)) ≡ identifiers (map (λ r. r.name) l.rules)
