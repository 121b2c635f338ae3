use Rattle.std.proofs.Common.{◌≡◌, ◌++◌, map, take}
use Rattle.vtl_cell.specs.Outcome.{join}
use Rattle.vtl_meaning.specs.Points.{point_fault, point_of}
use Rattle.vtl_expr.specs.Prepared.{prepared_exp}
use Rattle.vtl_scalar.specs.Seen.{seen_of}
use Rattle.vtl_expr.proofs.points.put_values.Given as goal

abbrev pub invariant-loop-e : goal.invariant-loop-e
invariant-loop-e l = record {
  table : l.points.table ≡ l.fn.points.table;
  cells : l.points.cells.items ≡ l.fn.points.cells.items ++ point_of l.p (map prepared_exp (take l.e-index l.exps)) l.at;
  seen : seen_of l.points.seen ≡ join (seen_of l.fn.points.seen) (point_fault l.p (map prepared_exp (take l.e-index l.exps)) l.at);
}
