use Rattle.std.proofs.Common.{◌≡◌, ◌++◌, drop}
use Rattle.check_rules.specs.Order.{computed_items}
use Rattle.check_rules.proofs.ordering.computed_differ.Given as goal

abbrev pub invariant-loop-place : goal.invariant-loop-place
invariant-loop-place l = l.items.items ++ computed_items (drop l.place l.rules) ≡ computed_items l.rules
