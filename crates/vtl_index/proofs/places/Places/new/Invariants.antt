use Rattle.std.proofs.Common.{◌≡◌, length}
use Rattle.vtl_index.proofs.places.Places.new.Given as goal

abbrev pub invariant-loop : goal.invariant-loop
invariant-loop l = length l.buckets.items ≡ l.counter
