use Rattle.std.proofs.Common.{◌≡◌, ◌++◌, take}
use Rattle.vtl_cell.specs.Outcome.{join}
use Rattle.vtl_scalar.specs.Seen.{seen_of}
use Rattle.vtl_group.specs.Calls.{rows_at}
use Rattle.vtl_group.specs.Points.{faults_of_calls, values_of_calls}
use Rattle.vtl_group.proofs.recipe.put_values.Given as goal

abbrev pub invariant-loop-call : goal.invariant-loop-call
invariant-loop-call l = record {
  table : l.points.table ≡ l.fn.points.table;
  cells : l.points.cells.items ≡ l.fn.points.cells.items ++ values_of_calls l.p (take l.call-index l.calls) (rows_at l.table.rows l.numbers);
  seen : seen_of l.points.seen ≡ join (seen_of l.fn.points.seen) (faults_of_calls l.p (take l.call-index l.calls) (rows_at l.table.rows l.numbers));
}
