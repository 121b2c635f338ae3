use Rattle.std.proofs.Common.{◌≡◌, length}
use Rattle.vtl_index.specs.Places.{FoundBelow, IsBacked}
use Rattle.vtl_index.proofs.places.Places.of.Given as goal

abbrev pub invariant-loop-place : goal.invariant-loop-place
invariant-loop-place l =
    IsBacked l.places.buckets.items l.places.others × (length l.places.buckets.items ≡ l.count)
    × FoundBelow l.place l.keys.cells.now l.keys.width l.keys.count l.places.buckets.items l.places.others
