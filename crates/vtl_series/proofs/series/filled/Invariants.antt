use Rattle.std.proofs.Common.{◌≡◌, [], take}
use Rattle.std.specs.List.{flat_map}
use Rattle.vtl_series.specs.Series.{keys_by, tuple_rows}
use Rattle.vtl_series.proofs.series.filled.Given as goal

abbrev pub invariant-loop-group : goal.invariant-loop-group
invariant-loop-group l = record {
  columns : l.rows.columns ≡ l.fn.columns.items;
  rows : l.rows.rows ≡ flat_map (tuple_rows l.extent l.on l.by l.table.rows) (take l.group (keys_by l.by l.table.rows));
  empty : l.room.items ≡ [];
}
