use Rattle.std.proofs.Common.{◌≡◌, ◌++◌, take}
use Rattle.vtl_times.specs.Filling.{picks_of}
use Rattle.vtl_times.proofs.fill.push_picks.Given as goal

abbrev pub invariant-loop-place : goal.invariant-loop-place
invariant-loop-place l = l.picks.items ≡ l.fn.picks.items ++ picks_of l.part (take l.place-index l.places)
