use Rattle.std.proofs.Common.{◌≡◌, take}
use Rattle.std.specs.List.{flat_map}
use Rattle.vtl_tree.specs.RuleItems.{items_of}
use Rattle.hierarchies_to_sql.proofs.checks.items_once.Given as goal

abbrev pub invariant-loop-rule : goal.invariant-loop-rule
invariant-loop-rule l = l.all.items ≡ flat_map items_of (take l.rule-index l.rules)
