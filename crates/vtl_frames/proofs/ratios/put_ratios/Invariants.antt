use Rattle.std.proofs.Common.{◌≡◌, ◌++◌, map}
use Rattle.std.specs.List.{range_with_len}
use Rattle.vtl_cell.specs.Groups.{ratio_of}
use Rattle.vtl_cell.specs.Row.{column_of}
use Rattle.vtl_frames.proofs.ratios.put_ratios.Given as goal

abbrev pub invariant-loop-place : goal.invariant-loop-place
invariant-loop-place g l = l.out.items ≡ l.fn.out.items ++ map (λ i. ratio_of l.p (column_of i (g.P.Partition.cells l.cells)) (g.P.Partition.cells l.cells)) (range_with_len 0 l.place)
