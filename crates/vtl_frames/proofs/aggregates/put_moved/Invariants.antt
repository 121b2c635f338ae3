use Rattle.std.proofs.Common.{◌≡◌, ◌++◌, length, map}
use Rattle.std.specs.List.{range_with_len}
use Rattle.vtl_cell.specs.Groups.{group_value}
use Rattle.vtl_frames.specs.Best.{cell_in}
use Rattle.vtl_frames.specs.Framed.{framed, places_from}
use Rattle.vtl_frames.specs.Kept.{Keeps}
use Rattle.vtl_frames.proofs.PlaceLemmas.{IsBehind}
use Rattle.vtl_frames.proofs.aggregates.put_moved.Given as goal

abbrev pub invariant-loop-place : goal.invariant-loop-place
invariant-loop-place g l = record {
  kind : l.kept.kind ≡ l.fn.kind;
  keeps : Keeps (cell_in (g.P.Partition.cells l.cells)) (places_from l.at.start l.at.end) l.kept;
  behind : IsBehind l.frame (length (g.P.Partition.cells l.cells)) l.at l.place;
  values : l.out.items ≡ l.fn.out.items ++ map (λ i. group_value l.p l.fn.kind (framed l.frame i (g.P.Partition.cells l.cells))) (range_with_len 0 l.place);
}
