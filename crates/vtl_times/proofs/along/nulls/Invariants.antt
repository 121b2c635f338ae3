use Rattle.std.proofs.Common.{◌≡◌, length}
use Rattle.vtl_times.proofs.along.nulls.Given as goal

abbrev pub invariant-loop : goal.invariant-loop
invariant-loop l = length l.values.items ≡ l.counter
