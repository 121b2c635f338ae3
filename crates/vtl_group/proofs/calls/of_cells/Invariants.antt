use Rattle.std.proofs.Common.{◌≡◌, map, take}
use Rattle.vtl_agg.specs.Added.{IsAdded}
use Rattle.vtl_cell.specs.Row.{column_of}
use Rattle.vtl_group.specs.Calls.{rows_at}
use Rattle.vtl_group.proofs.calls.of_cells.Given as goal

abbrev pub invariant-loop-i : goal.invariant-loop-i
invariant-loop-i l = record {
  settings : l.acc.settings ≡ l.p;
  kind : l.acc.kind ≡ l.fn.kind;
  added : IsAdded l.acc (map (column_of l.place) (rows_at l.table.rows (take l.i l.numbers)));
}
