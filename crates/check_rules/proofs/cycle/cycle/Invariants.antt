use Rattle.std.proofs.Common.{ℕ, List, ◌++◌, drop}
use Rattle.check_rules.specs.Order.{DependsOn, Picked, computed_items}
use Rattle.check_rules.proofs.cycle.cycle.Given as goal

abbrev pub invariant-loop-place : goal.invariant-loop-place
invariant-loop-place l = (rest : List (List ℕ)) → Picked (λ item. DependsOn l.rules item item) (computed_items (drop l.place l.rules)) rest → Picked (λ item. DependsOn l.rules item item) (computed_items l.rules) (l.items.items ++ rest)
