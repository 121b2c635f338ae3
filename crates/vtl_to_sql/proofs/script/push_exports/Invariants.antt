use Rattle.std.proofs.Common.{◌≡◌, ◌+◌, ◌++◌, drop, length, map}
use Rattle.vtl_tree.specs.NodeView.{node_tree}
use Rattle.vtl_backend.specs.Statements.{with_nodes}
use Rattle.vtl_check.proofs.LeftLemmas.{left}
use Rattle.sql_tree.specs.View.{statement_tree}
use Rattle.vtl_to_sql.specs.Scripts.{export_for, written_of}
use Rattle.vtl_to_sql.proofs.script.push_exports.Given as goal

abbrev pub invariant-loop-statement : goal.invariant-loop-statement
invariant-loop-statement l = record {
  many : l.place + length (left l.statements l.statement-index) ≡ length l.nodes;
  made : map statement_tree l.draft.statements.items ++ map export_for (written_of (with_nodes (left l.statements l.statement-index) (map node_tree (drop l.place l.nodes))))
      ≡ map statement_tree l.fn.draft.statements.items ++ map export_for (written_of (with_nodes (left l.statements 0) (map node_tree l.nodes)));
}
