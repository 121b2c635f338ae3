use Rattle.std.proofs.Common.{◌≡◌, take}
use Rattle.vtl_series.specs.Kept.{AreWithin, spans_of}
use Rattle.vtl_series.proofs.series.spans_of_table.Given as goal

abbrev pub invariant-loop-i : goal.invariant-loop-i
invariant-loop-i l = record {
  value : l.spans ≡ spans_of l.on (take l.i l.table.rows);
  within : AreWithin l.spans;
}
