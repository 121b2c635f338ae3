use Rattle.std.proofs.Common.{◌≡◌, ◌++◌, ℕ, List, take}
use Rattle.vtl_tree.specs.RuleItems.{right_items}
use Rattle.check_rules.specs.Running.{places_at, places_of}
use Rattle.check_rules.proofs.places.note_right.Given as goal

abbrev pub invariant-loop-k : goal.invariant-loop-k
invariant-loop-k l = (q : List ℕ) → places_at q l.places ≡ places_at q l.fn.places ++ places_of l.place q (take l.k (right_items l.rule))
