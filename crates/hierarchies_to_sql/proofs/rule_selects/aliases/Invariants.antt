use Rattle.std.proofs.Common.{◌≡◌}
use Rattle.hierarchies_to_sql.specs.RuleItems.{aliases_from}
use Rattle.hierarchies_to_sql.proofs.rule_selects.aliases.Given as goal

abbrev pub invariant-loop-i : goal.invariant-loop-i
invariant-loop-i l = l.aliases.items ≡ aliases_from 1 l.i
