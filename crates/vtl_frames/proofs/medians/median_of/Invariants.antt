use Rattle.std.proofs.Common.{◌≡◌}
use Rattle.vtl_agg.specs.Added.{IsAdded}
use Rattle.vtl_cell.specs.declared.operator.AggKind.TheVariants.{Median}
use Rattle.vtl_frames.specs.Framed.{cells_at, places_from}
use Rattle.vtl_frames.proofs.medians.median_of.Given as goal

abbrev pub invariant-loop-place : goal.invariant-loop-place
invariant-loop-place g l = record {
  settings : l.acc.settings ≡ l.p;
  kind : l.acc.kind ≡ Median;
  added : IsAdded l.acc (cells_at (g.P.Partition.cells l.cells) (places_from l.fn.cut.start l.place));
}
