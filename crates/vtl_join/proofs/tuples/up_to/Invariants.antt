use Rattle.std.proofs.Common.{◌≡◌}
use Rattle.vtl_join.specs.Crossing.{up_to}
use Rattle.vtl_join.proofs.tuples.up_to.Given as goal

abbrev pub invariant-loop-i : goal.invariant-loop-i
invariant-loop-i l = l.numbers.items ≡ up_to l.i
