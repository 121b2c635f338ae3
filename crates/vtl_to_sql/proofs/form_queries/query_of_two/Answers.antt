use Rattle.std.proofs.Common.{sym, ap, ◌∙◌}
use Rattle.std.proofs.lemmas.Result.{IfOk-weaker}
use Rattle.vtl_tree.specs.Trees.{FormTree, structure_of}
use Rattle.vtl_tree.specs.NodeView.{node_tree}
use Rattle.vtl_to_sql.specs.FormQueries.{query_of_two}
use Rattle.vtl_to_sql.proofs.Walked.{tree_of_difference, tree_of_symmetric_difference}
use Rattle.vtl_to_sql.proofs.form_queries.query_of_two.Goals as goal

pub returns-in-SetDiff : goal.returns-in-SetDiff
returns-in-SetDiff c =
    let p = c.args.writer.now in
    IfOk-weaker c.set_query.result _ _
    (λ q e. e (structure_of (node_tree c.in-SetDiff.a.value)) (structure_of (node_tree c.in-SetDiff.b.value))
    ∙ sym (ap (λ (f : FormTree). query_of_two p f c.args.s.now c.args.first.now c.args.second.now) (tree_of_difference c.args.form.now c.in-SetDiff.a c.in-SetDiff.b c.in-SetDiff.is))) c.set_query.ensures

pub returns-in-SymDiff : goal.returns-in-SymDiff
returns-in-SymDiff c =
    let p = c.args.writer.now in
    IfOk-weaker c.set_query-in-SymDiff.result _ _
    (λ q e. e (structure_of (node_tree c.in-SymDiff.a.value)) (structure_of (node_tree c.in-SymDiff.b.value))
    ∙ sym (ap (λ (f : FormTree). query_of_two p f c.args.s.now c.args.first.now c.args.second.now) (tree_of_symmetric_difference c.args.form.now c.in-SymDiff.a c.in-SymDiff.b c.in-SymDiff.is))) c.set_query-in-SymDiff.ensures
