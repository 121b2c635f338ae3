use Rattle.std.proofs.Common.{◌≡◌, map}
use Rattle.std.specs.List.{range_with_len}
use Rattle.vtl_cell.specs.Outcome.{faults_by}
use Rattle.vtl_scalar.specs.Seen.{seen_of}
use Rattle.vtl_sets.specs.TableOf.{table_columns}
use Rattle.vtl_times.specs.Columns.{cells_of, fault_of, row_values}
use Rattle.vtl_times.proofs.rows.each_row.Given as goal

abbrev pub invariant-loop-i : goal.invariant-loop-i
invariant-loop-i l = record {
  columns : l.points.table.columns ≡ table_columns l.made;
  rows : l.points.table.rows ≡ map (λ i. cells_of (row_values l.p l.columns l.a.points i)) (range_with_len 0 l.i);
  seen : seen_of l.points.seen ≡ faults_by (λ i. fault_of (row_values l.p l.columns l.a.points i)) (range_with_len 0 l.i);
}
