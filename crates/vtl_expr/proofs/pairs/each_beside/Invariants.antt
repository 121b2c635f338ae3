use Rattle.std.proofs.Common.{◌≡◌, ◌++◌, map, take}
use Rattle.std.specs.List.{flat_map}
use Rattle.vtl_cell.specs.Outcome.{faults_by}
use Rattle.vtl_sets.specs.TableOf.{table_columns}
use Rattle.vtl_meaning.specs.Points.{point_fault, point_of}
use Rattle.vtl_expr.specs.Partners.{with_found}
use Rattle.vtl_expr.specs.Prepared.{prepared_exp}
use Rattle.vtl_scalar.specs.Seen.{seen_of}
use Rattle.vtl_expr.proofs.pairs.each_beside.Given as goal

abbrev pub invariant-loop-i : goal.invariant-loop-i
invariant-loop-i g l = record {
  columns : l.points.table.columns ≡ table_columns l.made;
  rows : l.points.table.rows ≡ map (point_of l.p (map prepared_exp l.exps)) (flat_map (with_found (λ r q. r ++ q) l.partners) (take l.i l.table.rows));
  seen : seen_of l.points.seen ≡ faults_by (point_fault l.p (map prepared_exp l.exps)) (flat_map (with_found (λ r q. r ++ q) l.partners) (take l.i l.table.rows));
}
