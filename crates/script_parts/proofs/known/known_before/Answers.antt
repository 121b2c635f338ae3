use Rattle.std.proofs.Common.{List, map, subst, sym}
use Rattle.vtl_syntax.specs.View.{statement_tree}
use Rattle.vtl_syntax.specs.declared.statements.Statement.{Statement}
use Rattle.vtl_tree.specs.NodeView.{node_tree}
use Rattle.vtl_tree.specs.Structures.{Named}
use Rattle.vtl_tree.specs.declared.nodes.Node.{Node}
use Rattle.vtl_check.specs.Checked.{nodes_of, tree_of}
use Rattle.vtl_check.specs.Transformations.{transformations}
use Rattle.script_parts.specs.Results.{AreResults}
use Rattle.script_parts.proofs.Typing.{results-are}
use Rattle.script_parts.proofs.known.known_before.Goals as goal

pub put_results-requires-clause-results : goal.put_results-requires-clause-results
put_results-requires-clause-results c =
    let t = c.args.script.now in
    let nodes = c.nodes-nodes.ensures in
    let are = results-are t.settings t.declared (tree_of t) (nodes_of t) nodes.typed (c.results_are_declarable.ensures t nodes.declared nodes.written nodes.typed) in
    subst (λ (sets : Named). AreResults sets (transformations (map statement_tree c.statements.result.now)) (map node_tree c.nodes-nodes.result.now)) (sym c.in_ok-known.ensures.sets)
    (subst (λ (ss : List Statement). AreResults t.declared (transformations (map statement_tree ss)) (map node_tree c.nodes-nodes.result.now)) (sym c.statements.ensures)
    (subst (λ (ns : List Node). AreResults t.declared (transformations (tree_of t)) (map node_tree ns)) (sym nodes.nodes) are))
