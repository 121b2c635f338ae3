use Rattle.std.proofs.Common.{◌≡◌, ◌++◌, map, Ok}
use Rattle.std.specs.List.{range_with_len}
use Rattle.vtl_frames.specs.Framed.{framed}
use Rattle.vtl_frames.specs.Picks.{end_cell}
use Rattle.vtl_frames.proofs.picks.put_ends.Given as goal

abbrev pub invariant-loop-place : goal.invariant-loop-place
invariant-loop-place g l = l.out.items ≡ l.fn.out.items ++ map (λ i. Ok (end_cell l.end (framed l.frame i (g.P.Partition.cells l.cells)))) (range_with_len 0 l.place)
