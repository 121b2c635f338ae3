use Rattle.std.proofs.Common.{◌≡◌, take}
use Rattle.vtl_check.proofs.known.share_structures.Given as goal

abbrev pub invariant-loop-i : goal.invariant-loop-i
invariant-loop-i l = l.known ≡ take l.i l.structures.sets
