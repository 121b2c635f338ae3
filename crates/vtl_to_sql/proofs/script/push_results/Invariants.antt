use Rattle.std.proofs.Common.{◌≡◌, ◌+◌, ◌++◌, drop, length, map}
use Rattle.vtl_tree.specs.NodeView.{node_tree}
use Rattle.vtl_backend.specs.Statements.{with_nodes}
use Rattle.vtl_check.proofs.LeftLemmas.{left}
use Rattle.sql_tree.specs.View.{statement_tree}
use Rattle.vtl_to_sql.specs.Accepted.{AreFew}
use Rattle.selects_to_sql.specs.Tables.{create_for}
use Rattle.vtl_to_sql.specs.Tables.{script_tables}
use Rattle.vtl_to_sql.proofs.script.push_results.Given as goal

abbrev pub invariant-loop-statement : goal.invariant-loop-statement
invariant-loop-statement l = record {
  many : l.place + length (left l.statements l.statement-index) ≡ length l.nodes;
  few : AreFew l.writer (with_nodes (left l.statements l.statement-index) (map node_tree (drop l.place l.nodes))) → AreFew l.writer (with_nodes (left l.statements 0) (map node_tree l.nodes));
  made : map statement_tree l.draft.statements.items ++ map create_for (script_tables l.writer (with_nodes (left l.statements l.statement-index) (map node_tree (drop l.place l.nodes))))
      ≡ map statement_tree l.fn.draft.statements.items ++ map create_for (script_tables l.writer (with_nodes (left l.statements 0) (map node_tree l.nodes)));
}
