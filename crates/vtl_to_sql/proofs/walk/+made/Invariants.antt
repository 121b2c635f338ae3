use Rattle.std.proofs.Common.{◌≡◌, ◌∷◌, ◌++◌, [], drop, length, map}
use Rattle.vtl_tree.specs.Trees as nodes
use Rattle.vtl_tree.specs.NodeView.{node_tree, operand_tree}
use Rattle.sql_tree.specs.View.{statement_tree}
use Rattle.vtl_to_sql.specs.Combined.{combined_made, rest_made}
use Rattle.selects_to_sql.specs.Tables.{create_for, by_name}
use Rattle.vtl_to_sql.specs.Tables.{operands_of}
use Rattle.vtl_to_sql.proofs.Combining.{GivesAll}
use Rattle.vtl_to_sql.proofs.walk.+made.Given as goal

abbrev pub invariant-joined_sources-loop-operand : goal.invariant-joined_sources-loop-operand
invariant-joined_sources-loop-operand l =
    let all = operands_of l.writer l.target (nodes.operands_of (map operand_tree l.operands)) l.fn.draft.next in
    let left = nodes.operands_of (map operand_tree (drop l.operand-index l.operands)) in
    let rest = operands_of l.writer l.target left l.draft.next in
    record {
      names : l.tables.items ++ rest.names ≡ all.names;
      many : length l.tables.items ≡ l.operand-index;
      tables : map statement_tree l.draft.statements.items ++ map create_for rest.tables ≡ map statement_tree l.fn.draft.statements.items ++ map create_for all.tables;
      next : rest.next ≡ all.next;
    }

abbrev pub invariant-combined-loop-node : goal.invariant-combined-loop-node
invariant-combined-loop-node l =
    let all = combined_made l.operator l.writer l.target l.s (map node_tree l.nodes) l.fn.draft.next in
    let left = map node_tree (drop l.node-index l.between) ++ node_tree l.last ∷ [] in
    record {
      gives : GivesAll all (map statement_tree l.fn.draft.statements.items) (map statement_tree l.draft.statements.items) (rest_made l.operator l.writer l.target l.s left l.s (by_name l.so_far l.draft.next));
    }
