use Rattle.std.proofs.Common.{map, take}
use Rattle.vtl_tree.specs.NodeView.{node_tree}
use Rattle.vtl_interp.specs.Reads.{AreRead, AreReadThere}
use Rattle.vtl_interp.proofs.last_reads.last_reads.Given as goal

abbrev pub invariant-loop-i : goal.invariant-loop-i
invariant-loop-i l = record {
  read : AreRead l.last.entries 0 (map node_tree (take l.i l.nodes));
  only : AreReadThere l.last.entries (map node_tree (take l.i l.nodes));
}
