use Rattle.std.proofs.Common.{◌≡◌, take}
use Rattle.vtl_cell.specs.Outcome.{join}
use Rattle.vtl_tree.specs.Value.{value}
use Rattle.vtl_expr.specs.Prepared.{prepared_exp}
use Rattle.vtl_scalar.specs.Seen.{seen_of}
use Rattle.vtl_window.specs.Analyses.{cells_by, faults_of}
use Rattle.vtl_window.proofs.columns.computed_cells.Given as goal

abbrev pub invariant-loop-i : goal.invariant-loop-i
invariant-loop-i l = record {
  cells : l.cells.items ≡ cells_by (value l.p (prepared_exp l.e)) (take l.i l.table.rows);
  seen : seen_of l.seen ≡ join (seen_of l.fn.seen) (faults_of (value l.p (prepared_exp l.e)) (take l.i l.table.rows));
}
