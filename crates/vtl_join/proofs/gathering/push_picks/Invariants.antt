use Rattle.std.proofs.Common.{◌≡◌, ◌++◌, take}
use Rattle.vtl_join.specs.Picks.{picks_at}
use Rattle.vtl_join.proofs.gathering.push_picks.Given as goal

abbrev pub invariant-loop-place : goal.invariant-loop-place
invariant-loop-place l = l.picks.items ≡ l.fn.picks.items ++ picks_at l.part (take l.place-index l.places)
