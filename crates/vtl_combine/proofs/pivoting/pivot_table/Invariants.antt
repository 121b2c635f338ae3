use Rattle.std.proofs.Common.{◌≡◌, map, take}
use Rattle.vtl_rows.specs.Places.{row_at}
use Rattle.vtl_sets.specs.TableOf.{table_columns}
use Rattle.vtl_combine.specs.Pivots.{pivoted}
use Rattle.vtl_combine.proofs.pivoting.pivot_table.Given as goal

abbrev pub invariant-loop-first : goal.invariant-loop-first
invariant-loop-first g l = record {
  columns : l.out.columns ≡ table_columns l.made;
  rows : l.out.rows ≡ map (λ f. pivoted l.pivot (row_at l.table.rows f)) (take l.first-index l.first-items);
}
