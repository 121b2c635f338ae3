use Rattle.std.proofs.Common.{◌≡◌, ◌+◌, drop, length, map}
use Rattle.std.specs.Map.{keys_of}
use Rattle.vtl_tree.specs.NodeView.{node_tree}
use Rattle.vtl_scripts.specs.Meaning.{meaning}
use Rattle.vtl_check.proofs.LeftLemmas.{left}
use Rattle.vtl_interp.specs.Reads.{AreRead}
use Rattle.vtl_interp.specs.Results.{AreReady, Remain}
use Rattle.vtl_interp.proofs.Turns.{left_from}
use Rattle.vtl_interp.proofs.statements.run_each.Given as goal

abbrev pub invariant-loop-statement : goal.invariant-loop-statement
invariant-loop-statement l = record {
  many : l.place + length (left l.statements l.statement-index) ≡ length l.nodes;
  reads : AreRead l.last.entries l.place (map node_tree (drop l.place l.nodes));
  ready : AreReady l.p l.held.known.entries (keys_of l.held.outputs) (left_from l.statements l.nodes l.statement-index l.place);
  meant : Remain (meaning l.p (left_from l.statements l.nodes 0 0) l.initial.held.known.entries) (meaning l.p (left_from l.statements l.nodes l.statement-index l.place) l.held.known.entries) l.held.outputs;
}
