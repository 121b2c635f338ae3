use Rattle.std.proofs.Common.{◌∙◌, ◌++◌, map, take, ap, subst, sym, arith, [], ◌∷◌}
use Rattle.std.proofs.lemmas.List.{length-map, length-take-le, map-append, take_more}
use Rattle.vtl_tree.specs.NodeView.{node_tree}
use Rattle.vtl_tree.specs.declared.nodes.Node.{Node}
use Rattle.vtl_interp.specs.Reads.{AreRead, AreReadThere}
use Rattle.vtl_interp.proofs.PlacesRead.{read_there_more, reads_more}
use Rattle.vtl_interp.proofs.last_reads.last_reads.Goals as goal

pub loop-i-preserved : goal.loop-i-preserved
loop-i-preserved c =
    let last = c.loop-i.last.entries in
    let now = c.note_reads.new.last.entries in
    let i = c.loop-i.i in
    let ns = c.args.nodes.now in
    let n = c.index-nodes-i.result in
    let l = length-map (take i ns) node_tree ∙ length-take-le i ns (omega (arith, c.loop-i-test.true)) in
    let more = sym (ap (map node_tree) (take_more ns i n c.loop-i-test.true ∙ ap (λ (x : Node). take i ns ++ x ∷ []) (sym c.index-nodes-i.is)) ∙ map-append node_tree (take i ns) (n ∷ [])) in
    record {
      read = subst (AreRead now 0) more (reads_more last now 0 i (map node_tree (take i ns)) (node_tree n) (omega (arith, l)) c.in_ok-note_reads.ensures.old c.in_ok-note_reads.ensures.new c.loop-i.invariant.read);
      only = subst (AreReadThere now) more (read_there_more last now i (map node_tree (take i ns)) (node_tree n) l c.in_ok-note_reads.ensures.only c.loop-i.invariant.only);
    }
