use Rattle.std.proofs.Common.{take}
use Rattle.std.specs.Map.{keys_of}
use Rattle.check_rules.specs.Found.{Finds, Has}
use Rattle.vtl_tree.specs.RuleItems.{right_items}
use Rattle.check_rules.proofs.cycle.find_right.Given as goal

abbrev pub invariant-loop-k : goal.invariant-loop-k
invariant-loop-k l = Finds (Has (take l.k (right_items l.rule))) (keys_of l.fn.found) (keys_of l.found)
