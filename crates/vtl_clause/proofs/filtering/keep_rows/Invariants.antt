use Rattle.std.proofs.Common.{◌≡◌, [], ◌++◌, take}
use Rattle.vtl_cell.specs.Outcome.{join}
use Rattle.vtl_tree.specs.Clauses.{kept}
use Rattle.vtl_scalar.specs.Seen.{seen_of}
use Rattle.vtl_expr.specs.Prepared.{prepared_exp}
use Rattle.vtl_clause.specs.Walks.{fault_over}
use Rattle.vtl_clause.proofs.filtering.keep_rows.Given as goal

abbrev pub invariant-loop-i : goal.invariant-loop-i
invariant-loop-i l = record {
  columns : l.kept.columns ≡ l.fn.kept.columns;
  empty : l.room.items ≡ [];
  rows : l.kept.rows ≡ l.fn.kept.rows ++ kept l.p (prepared_exp l.condition) (take l.i l.rows.rows);
  seen : seen_of l.seen ≡ join (seen_of l.fn.before) (fault_over l.p (prepared_exp l.condition) (take l.i l.rows.rows));
}
