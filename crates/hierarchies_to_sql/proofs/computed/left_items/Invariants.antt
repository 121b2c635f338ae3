use Rattle.std.proofs.Common.{◌≡◌, map, take}
use Rattle.vtl_tree.specs.RuleItems.{left_item}
use Rattle.vtl_tree.specs.Shown.{shown}
use Rattle.hierarchies_to_sql.proofs.computed.left_items.Given as goal

abbrev pub invariant-loop-rule : goal.invariant-loop-rule
invariant-loop-rule l = l.items.items ≡ map left_item (shown (take l.rule-index l.rules))
