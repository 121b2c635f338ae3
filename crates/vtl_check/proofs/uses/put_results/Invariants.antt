use Rattle.std.proofs.Common.{◌≡◌, ◌+◌, drop, length, map}
use Rattle.vtl_tree.specs.NodeView.{node_tree}
use Rattle.vtl_check.specs.Uses.{results_behind}
use Rattle.vtl_check.proofs.LeftLemmas.{left}
use Rattle.vtl_check.proofs.uses.put_results.Given as goal

abbrev pub invariant-loop-statement : goal.invariant-loop-statement
invariant-loop-statement l = record {
  many : l.place + length (left l.statements l.statement-index) ≡ length l.nodes;
  results : results_behind l.known (left l.statements l.statement-index) (map node_tree (drop l.place l.nodes)) ≡ results_behind l.fn.known (left l.statements 0) (map node_tree l.nodes);
}
