use Rattle.std.proofs.Common.{◌≡◌, ◌∷◌, map, take}
use Rattle.vtl_tree.specs.Names.{name_of}
use Rattle.vtl_tree.specs.RuleItems.{left_item, signed_item}
use Rattle.check_rules.proofs.items.items.Given as goal

abbrev pub invariant-loop-other : goal.invariant-loop-other
invariant-loop-other l = l.items.items ≡ left_item l.rule ∷ name_of l.rule.first ∷ map signed_item (take l.other-index l.others)
