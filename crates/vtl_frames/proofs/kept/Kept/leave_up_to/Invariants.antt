use Rattle.std.proofs.Common.{◌≡◌}
use Rattle.vtl_frames.specs.Best.{cell_in}
use Rattle.vtl_frames.specs.Framed.{places_from}
use Rattle.vtl_frames.specs.Kept.{Keeps}
use Rattle.vtl_frames.proofs.kept.Kept.leave_up_to.Given as goal

abbrev pub invariant-loop-place : goal.invariant-loop-place
invariant-loop-place g l = record {
  kind : l.self.kind ≡ l.fn.self.kind;
  keeps : Keeps (cell_in (g.P.Partition.cells l.cells)) (places_from l.place l.fn.from.end) l.self;
}
