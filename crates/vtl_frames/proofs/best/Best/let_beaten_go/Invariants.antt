use Rattle.std.proofs.Common.{◌≡◌, length}
use Rattle.vtl_frames.specs.Best.{cell_in, le_of, without_beaten}
use Rattle.vtl_frames.specs.Kept.{AreIn}
use Rattle.vtl_frames.proofs.best.Best.let_beaten_go.Given as goal

abbrev pub invariant-loop-self : goal.invariant-loop-self
invariant-loop-self g l = record {
  kind : l.self.kind ≡ l.fn.self.kind;
  places : without_beaten (λ k. le_of l.fn.self.kind l.c (cell_in (g.P.Partition.cells l.cells) k)) l.self.places.items ≡ without_beaten (λ k. le_of l.fn.self.kind l.c (cell_in (g.P.Partition.cells l.cells) k)) l.fn.self.places.items;
  within : AreIn (g.P.Partition.cells l.cells) l.self.places.items;
}

abbrev pub decreases-loop-self : goal.decreases-loop-self
decreases-loop-self g l = length l.self.places.items
