use Rattle.std.proofs.Common.{◌≡◌, ◌∷◌, ◌++◌, map, take}
use Rattle.vtl_tree.specs.Names.{name_of}
use Rattle.vtl_tree.specs.RuleItems.{signed_item}
use Rattle.hierarchies_to_sql.proofs.rule_selects.push_right_items.Given as goal

abbrev pub invariant-loop-other : goal.invariant-loop-other
invariant-loop-other l = l.items.items ≡ l.fn.items.items ++ (name_of l.rule.first ∷ map signed_item (take l.other-index l.others))
