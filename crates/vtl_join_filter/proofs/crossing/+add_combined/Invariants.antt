use Rattle.std.proofs.Common.{◌≡◌, ◌∷◌, [], ◌++◌, length, map, take}
use Rattle.std.specs.List.{flat_map}
use Rattle.vtl_join.specs.Crossing.{tuples_behind}
use Rattle.vtl_join.specs.Gatherings.{point_of}
use Rattle.vtl_join_filter.specs.Partners.{numbers_of}
use Rattle.vtl_join_filter.specs.Sifting.{IsReady, asked_of, so_far}
use Rattle.vtl_join_filter.proofs.crossing.+add_combined.Given as goal

abbrev pub decreases-add_combined : goal.decreases-add_combined
decreases-add_combined l = length l.counts.now

abbrev pub invariant-loop-i : goal.invariant-loop-i
invariant-loop-i l = record {
  ready : IsReady l.asked l.sieve;
  front : l.front.items ≡ l.fn.front.items;
  found : so_far l.asked l.sieve ≡ asked_of l.asked (so_far l.asked l.fn.sieve) (map (point_of l.asked.gathering) (flat_map (λ k. tuples_behind (l.fn.front.items ++ k ∷ []) l.rest) (take l.i (numbers_of l.numbers))));
}
