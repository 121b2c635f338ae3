use Rattle.std.proofs.Common.{◌-◌, ◌^◌}
use Rattle.std.specs.Map.{keys_of}
use Rattle.check_rules.proofs.Finding.{IsFollowed}
use Rattle.check_rules.proofs.cycle.depends_on_itself.Given as goal

abbrev pub invariant-loop-at : goal.invariant-loop-at
invariant-loop-at l = IsFollowed l.rules l.item l.at (keys_of l.found)

abbrev pub decreases-loop-at : goal.decreases-loop-at
decreases-loop-at l = 2 ^ 64 - l.at
