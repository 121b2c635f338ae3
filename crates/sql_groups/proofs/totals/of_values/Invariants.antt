use Rattle.std.proofs.Common.{◌≡◌, [], map, take}
use Rattle.vtl_agg.specs.Added.{IsAdded}
use Rattle.vtl_cell.specs.Outcome.{fault_in, faults_by}
use Rattle.sql_meaning.specs.Outcomes.{cell_or_null}
use Rattle.sql_eval.specs.Placed.{placed_value}
use Rattle.sql_eval.specs.View.{placed_of}
use Rattle.sql_groups.specs.Grouped.{rows_at}
use Rattle.sql_groups.specs.Kept.{rows_of, tables_of}
use Rattle.vtl_scalar.specs.Seen.{seen_of}
use Rattle.sql_groups.proofs.totals.of_values.Given as goal

abbrev pub invariant-loop-number : goal.invariant-loop-number
invariant-loop-number l = record {
  settings : l.acc.settings ≡ l.p;
  kind : l.acc.kind ≡ l.fn.function;
  added : IsAdded l.acc (map (λ r. cell_or_null (placed_value l.p (tables_of l.rows) (placed_of l.operand) r [])) (rows_at (rows_of l.rows) (take l.number-index l.numbers)));
  seen : seen_of l.seen ≡ faults_by (λ r. fault_in (placed_value l.p (tables_of l.rows) (placed_of l.operand) r [])) (rows_at (rows_of l.rows) (take l.number-index l.numbers));
}
