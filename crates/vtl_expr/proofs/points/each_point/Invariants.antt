use Rattle.std.proofs.Common.{◌≡◌, map, take}
use Rattle.vtl_cell.specs.Outcome.{faults_by}
use Rattle.vtl_tree.specs.View.{comp_exp_of}
use Rattle.vtl_sets.specs.TableOf.{table_columns}
use Rattle.vtl_meaning.specs.Points.{point_fault, point_of}
use Rattle.vtl_scalar.specs.Seen.{seen_of}
use Rattle.vtl_expr.proofs.points.each_point.Given as goal

abbrev pub invariant-loop-i : goal.invariant-loop-i
invariant-loop-i l = record {
  columns : l.points.table.columns ≡ table_columns l.made;
  rows : l.points.table.rows ≡ map (point_of l.p (map comp_exp_of l.exps)) (take l.i l.table.rows);
  seen : seen_of l.points.seen ≡ faults_by (point_fault l.p (map comp_exp_of l.exps)) (take l.i l.table.rows);
}
