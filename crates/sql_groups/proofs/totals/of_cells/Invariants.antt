use Rattle.std.proofs.Common.{◌≡◌, map, take}
use Rattle.vtl_agg.specs.Added.{IsAdded}
use Rattle.vtl_cell.specs.Row.{column_of}
use Rattle.sql_groups.specs.Grouped.{rows_at}
use Rattle.sql_groups.specs.Kept.{rows_of}
use Rattle.sql_groups.proofs.totals.of_cells.Given as goal

abbrev pub invariant-loop-i : goal.invariant-loop-i
invariant-loop-i l = record {
  settings : l.acc.settings ≡ l.p;
  kind : l.acc.kind ≡ l.fn.function;
  added : IsAdded l.acc (map (column_of l.place) (rows_at (rows_of l.rows) (take l.i l.numbers)));
}
