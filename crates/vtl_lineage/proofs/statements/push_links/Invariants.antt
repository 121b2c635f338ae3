use Rattle.std.proofs.Common.{◌≡◌, ◌+◌, ◌++◌, drop, length, map}
use Rattle.vtl_tree.specs.NodeView.{node_tree}
use Rattle.vtl_backend.specs.Statements.{with_nodes}
use Rattle.vtl_check.proofs.LeftLemmas.{left}
use Rattle.vtl_lineage.specs.Shown.{all_links, lent_pairs, shown_links}
use Rattle.vtl_lineage.proofs.statements.push_links.Given as goal

abbrev pub invariant-loop-statement : goal.invariant-loop-statement
invariant-loop-statement l = record {
  many : l.place + length (left l.statements l.statement-index) ≡ length l.nodes;
  linked : shown_links l.links.items ++ all_links (lent_pairs l.pairs) l.known (with_nodes (left l.statements l.statement-index) (map node_tree (drop l.place l.nodes)))
      ≡ shown_links l.fn.links.items ++ all_links (lent_pairs l.pairs) l.fn.known (with_nodes (left l.statements 0) (map node_tree l.nodes));
}
