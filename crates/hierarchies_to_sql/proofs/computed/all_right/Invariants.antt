use Rattle.std.proofs.Common.{◌≡◌, take}
use Rattle.std.specs.List.{flat_map}
use Rattle.vtl_tree.specs.RuleItems.{right_items}
use Rattle.vtl_tree.specs.Shown.{shown}
use Rattle.hierarchies_to_sql.proofs.computed.all_right.Given as goal

abbrev pub invariant-loop-rule : goal.invariant-loop-rule
invariant-loop-rule l = l.all.items ≡ flat_map right_items (shown (take l.rule-index l.rules))
