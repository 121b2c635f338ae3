use Rattle.std.proofs.Common.{◌≡◌, ◌++◌, map, Ok}
use Rattle.std.specs.List.{range_with_len}
use Rattle.vtl_frames.specs.Picks.{shifted}
use Rattle.vtl_frames.proofs.picks.put_shifted.Given as goal

abbrev pub invariant-loop-place : goal.invariant-loop-place
invariant-loop-place g l = l.out.items ≡ l.fn.out.items ++ map (λ i. Ok (shifted l.shift l.distance l.default i (g.P.Partition.cells l.cells))) (range_with_len 0 l.place)
