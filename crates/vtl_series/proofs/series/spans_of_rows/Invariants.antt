use Rattle.std.proofs.Common.{◌≡◌, map, take}
use Rattle.vtl_rows.specs.Places.{row_at}
use Rattle.vtl_series.specs.Kept.{AreWithin, spans_of}
use Rattle.vtl_series.proofs.series.spans_of_rows.Given as goal

abbrev pub invariant-loop-place : goal.invariant-loop-place
invariant-loop-place l = record {
  value : l.spans ≡ spans_of l.on (map (row_at l.table.rows) (take l.place-index l.places));
  within : AreWithin l.spans;
}
