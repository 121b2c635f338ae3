use Rattle.std.proofs.Common.{◌≡◌, ◌≤◌, IfOk, arith, length, map, ap, subst, sym, ◌∙◌}
use Rattle.vtl_tree.specs.NodeView.{node_tree}
use Rattle.vtl_tree.proofs.NodeLemmas.{structure-there}
use Rattle.vtl_walks.specs.Lent.{lent}
use Rattle.vtl_walks.specs.Operands.{operands_in}
use Rattle.vtl_sources.specs.Sources.{traced}
use Rattle.vtl_lineage.specs.Lines.{node_line, traced_node}
use Rattle.vtl_lineage.proofs.Walks.{all_traced, by_operands}
use Rattle.vtl_lineage.proofs.nodes.+traced.Goals as goal

pub returns : goal.returns
returns t c =
    let known = c.args.known.now in
    let n = node_tree c.args.node.now in
    let below = lent c.operands-below.result in
    let done : length below ≤ c.loop-i.i = omega (arith, c.len-i-end.ensures, c.loop-i-test.false) in
    let all : c.deref.result.now ≡ map (traced_node known) (operands_in n) =
    c.deref.ensures.value ∙ all_traced known c.loop-i.given.items below c.loop-i.i done c.loop-i.invariant ∙ ap (map (traced_node known)) c.operands-below.ensures.operands in
    let found = c.in_ok-found.ensures ∙ ap (node_line known n) all ∙ sym (by_operands known n) in
    subst (λ x. IfOk c.of.result (λ o. o ≡ x)) (λ i. traced (sym (structure-there c.args.node.now) i) (found i)) c.of.ensures
