use Rattle.std.proofs.Common.{◌≡◌, [], length, map, vec_len}
use Rattle.vtl_sets.specs.TableOf.{column_for}
use Rattle.vtl_csv.specs.InputFields.{components_in}
use Rattle.vtl_csv.specs.InputSteps.{taken_with}
use Rattle.vtl_csv.proofs.dataset.add_rows.Given as goal

abbrev pub invariant-loop-cells : goal.invariant-loop-cells
invariant-loop-cells l =
    record {
      as_many : vec_len l.pools ≡ length l.columns;
      columns : l.table.columns ≡ map column_for (components_in l.columns);
      empty : l.cells.items ≡ [];
      taken : taken_with l.profile l.columns l.table.rows l.reader ≡ taken_with l.profile l.columns [] l.fn.reader;
    }

abbrev pub decreases-loop-cells : goal.decreases-loop-cells
decreases-loop-cells l = length l.reader
