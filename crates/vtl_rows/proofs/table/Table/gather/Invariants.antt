use Rattle.std.proofs.Common.{◌≡◌, [], map, take}
use Rattle.vtl_rows.specs.Places.{row_at}
use Rattle.vtl_rows.proofs.table.Table.gather.Given as goal

abbrev pub invariant-loop-i : goal.invariant-loop-i
invariant-loop-i l = record {
  columns : l.gathered.columns ≡ l.self.columns;
  rows : l.gathered.rows ≡ map (row_at l.self.rows) (take l.i l.rows);
  none : l.row.items ≡ [];
}
