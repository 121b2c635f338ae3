use Rattle.std.proofs.Common.{◌≡◌, ◌++◌, ◌-◌, [], map}
use Rattle.std.specs.List.{range_with_len}
use Rattle.vtl_series.specs.Series.{dated}
use Rattle.vtl_series.proofs.series.push_periods.Given as goal

abbrev pub invariant-loop-index : goal.invariant-loop-index
invariant-loop-index l = record {
  columns : l.rows.columns ≡ l.initial.rows.columns;
  rows : l.rows.rows ≡ l.initial.rows.rows ++ map (dated l.frequency l.key) (range_with_len l.fn.span.first (l.index - l.fn.span.first));
  empty : l.room.items ≡ [];
}
