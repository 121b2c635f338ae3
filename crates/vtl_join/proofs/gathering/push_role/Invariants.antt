use Rattle.std.proofs.Common.{◌≡◌, ◌++◌, take}
use Rattle.vtl_meaning.specs.Joined.{structures_of}
use Rattle.vtl_join.specs.Joining.{sets_of}
use Rattle.vtl_join.specs.Picks.{picks_from}
use Rattle.vtl_join.proofs.gathering.push_role.Given as goal

abbrev pub invariant-loop-i : goal.invariant-loop-i
invariant-loop-i l = l.picks.items ≡ l.fn.picks.items ++ picks_from l.role 1 (structures_of (sets_of (take l.i l.operands)))
