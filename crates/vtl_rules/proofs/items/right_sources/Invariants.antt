use Rattle.std.proofs.Common.{◌≡◌, ◌∷◌, map, take}
use Rattle.vtl_tree.specs.Names.{name_of}
use Rattle.vtl_tree.specs.RuleItems.{signed_item}
use Rattle.vtl_rules.specs.Itemized.{source_of}
use Rattle.vtl_rules.proofs.items.right_sources.Given as goal

abbrev pub invariant-loop-other : goal.invariant-loop-other
invariant-loop-other l = l.sources.items ≡ source_of l.input l.made (name_of l.rule.first) ∷ map (λ o. source_of l.input l.made (signed_item o)) (take l.other-index l.other-items)
