use Rattle.std.proofs.Common.{◌≡◌, ◌++◌, map, take}
use Rattle.vtl_cell.specs.Outcome.{join}
use Rattle.vtl_scalar.specs.Seen.{seen_of}
use Rattle.vtl_times.specs.Columns.{cells_of, column_value, fault_of}
use Rattle.vtl_times.proofs.rows.put_values.Given as goal

abbrev pub invariant-loop-column : goal.invariant-loop-column
invariant-loop-column l = record {
  table : l.points.table ≡ l.fn.points.table;
  cells : l.points.cells.items ≡ l.fn.points.cells.items ++ cells_of (map (column_value l.p l.row l.i) (take l.column-index l.columns));
  seen : seen_of l.points.seen ≡ join (seen_of l.fn.points.seen) (fault_of (map (column_value l.p l.row l.i) (take l.column-index l.columns)));
}
