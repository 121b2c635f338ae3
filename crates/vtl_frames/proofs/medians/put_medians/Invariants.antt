use Rattle.std.proofs.Common.{◌≡◌, ◌++◌, map}
use Rattle.std.specs.List.{range_with_len}
use Rattle.vtl_cell.specs.Groups.{group_value}
use Rattle.vtl_cell.specs.declared.operator.AggKind.TheVariants.{Median}
use Rattle.vtl_frames.specs.Framed.{framed}
use Rattle.vtl_frames.proofs.medians.put_medians.Given as goal

abbrev pub invariant-loop-place : goal.invariant-loop-place
invariant-loop-place g l = l.out.items ≡ l.fn.out.items ++ map (λ i. group_value l.p Median (framed l.frame i (g.P.Partition.cells l.cells))) (range_with_len 0 l.place)
