use Rattle.std.proofs.Common.{◌≡◌, true, take}
use Rattle.std.specs.List.{list_all}
use Rattle.vtl_tree.specs.RuleItems.{right_items}
use Rattle.check_rules.specs.Running.{is_free_by}
use Rattle.check_rules.proofs.run.free_from.Given as goal

abbrev pub invariant-loop-k : goal.invariant-loop-k
invariant-loop-k l = list_all (is_free_by l.awaited) (take l.known (right_items l.rule)) ≡ true → list_all (is_free_by l.awaited) (take l.k (right_items l.rule)) ≡ true
