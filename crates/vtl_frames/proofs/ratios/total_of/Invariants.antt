use Rattle.vtl_frames.specs.Best.{cell_in}
use Rattle.vtl_frames.specs.Framed.{places_from}
use Rattle.vtl_frames.specs.Kept.{HasTotals}
use Rattle.vtl_frames.proofs.ratios.total_of.Given as goal

abbrev pub invariant-loop-place : goal.invariant-loop-place
invariant-loop-place g l = HasTotals (cell_in (g.P.Partition.cells l.cells)) (places_from 0 l.place) l.totals
