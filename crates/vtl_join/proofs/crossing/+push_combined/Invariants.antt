use Rattle.std.proofs.Common.{◌≡◌, ◌∷◌, [], ◌++◌, length}
use Rattle.std.specs.List.{flat_map, range_with_len}
use Rattle.vtl_join.specs.Crossing.{combined}
use Rattle.vtl_join.proofs.crossing.+push_combined.Given as goal

abbrev pub decreases-push_combined : goal.decreases-push_combined
decreases-push_combined l = length l.counts.now

abbrev pub invariant-loop-i : goal.invariant-loop-i
invariant-loop-i l = record {
  tuples : l.tuples.items ≡ l.fn.tuples.items ++ flat_map (λ k. combined (l.fn.front.items ++ k ∷ []) l.rest) (range_with_len 0 l.i);
  front : l.front.items ≡ l.fn.front.items;
}
