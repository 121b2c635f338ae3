use Rattle.std.proofs.Common.{◌≡◌, map}
use Rattle.vtl_tree.specs.NodeView.{node_tree}
use Rattle.vtl_check.proofs.LeftLemmas.{left}
use Rattle.rerun_laws.specs.Parts.{known_before}
use Rattle.script_parts.specs.Results.{AreResults}
use Rattle.script_parts.proofs.Places.{nodes_left}
use Rattle.script_parts.proofs.known.put_results.Given as goal

abbrev pub invariant-loop-i : goal.invariant-loop-i
invariant-loop-i l = record {
  results : AreResults l.known.sets (left l.statements l.i) (nodes_left l.nodes l.place);
  all : known_before l.number l.known.sets (left l.statements l.i) (nodes_left l.nodes l.place) ≡ known_before l.number l.fn.known.sets (left l.statements 0) (map node_tree l.nodes);
  lists : l.known.not_null ≡ l.fn.known.not_null;
}
