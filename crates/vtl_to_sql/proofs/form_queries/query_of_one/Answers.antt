use Rattle.std.proofs.Common.{map, sym, ap, ◌∙◌}
use Rattle.std.proofs.lemmas.Result.{IfOk-weaker}
use Rattle.vtl_tree.specs.Trees.{FormTree, structure_of}
use Rattle.vtl_tree.specs.NodeView.{item_tree, node_tree}
use Rattle.vtl_to_sql.specs.FormQueries.{query_of_one}
use Rattle.selects_to_sql.specs.Queries.{calc_query, sub_query}
use Rattle.vtl_to_sql.proofs.Walked.{tree_of_aggregate, tree_of_calc, tree_of_drop, tree_of_keep, tree_of_member, tree_of_sub}
use Rattle.vtl_to_sql.proofs.form_queries.query_of_one.Goals as goal

pub returns-in-Calc : goal.returns-in-Calc
returns-in-Calc c =
    let p = c.args.writer.now in
    let s = c.args.s.now in
    let x = c.args.table.now in
    IfOk-weaker c.calc_query.result _ _
    (λ q e. e (structure_of (node_tree c.in-Calc.a.value))
    ∙ ap (λ l. calc_query p (map item_tree l) (structure_of (node_tree c.in-Calc.a.value)) s x) c.as_slice.ensures
    ∙ sym (ap (λ (f : FormTree). query_of_one p f s x) (tree_of_calc c.args.form.now c.in-Calc.a c.in-Calc.items c.in-Calc.is))) c.calc_query.ensures

pub returns-in-Sub : goal.returns-in-Sub
returns-in-Sub c =
    let p = c.args.writer.now in
    let s = c.args.s.now in
    let x = c.args.table.now in
    IfOk-weaker c.sub_query.result _ _
    (λ q e. e (structure_of (node_tree c.in-Sub.a.value))
    ∙ ap (λ l. sub_query p l (structure_of (node_tree c.in-Sub.a.value)) s x) c.as_slice-in-Sub.ensures
    ∙ sym (ap (λ (f : FormTree). query_of_one p f s x) (tree_of_sub c.args.form.now c.in-Sub.a c.in-Sub.values c.in-Sub.is))) c.sub_query.ensures

pub returns-in-Aggregate : goal.returns-in-Aggregate
returns-in-Aggregate c =
    let p = c.args.writer.now in
    let s = c.args.s.now in
    let x = c.args.table.now in
    IfOk-weaker c.aggregate_query.result _ _ (λ q e. e (structure_of (node_tree c.in-Aggregate.a.value)) ∙ sym (ap (λ (f : FormTree). query_of_one p f s x) (tree_of_aggregate c.args.form.now c.in-Aggregate.a c.in-Aggregate.spec c.in-Aggregate.is))) c.aggregate_query.ensures

pub returns-in-Member : goal.returns-in-Member
returns-in-Member c =
    let p = c.args.writer.now in
    let s = c.args.s.now in
    let x = c.args.table.now in
    IfOk-weaker c.left_query.result _ _ (λ q e. e (structure_of (node_tree c.in-Member.a.value)) ∙ sym (ap (λ (f : FormTree). query_of_one p f s x) (tree_of_member c.args.form.now c.in-Member.a c.in-Member.m c.in-Member.is))) c.left_query.ensures

pub returns-in-Keep : goal.returns-in-Keep
returns-in-Keep c =
    let p = c.args.writer.now in
    let s = c.args.s.now in
    let x = c.args.table.now in
    IfOk-weaker c.left_query-in-Keep.result _ _ (λ q e. e (structure_of (node_tree c.in-Keep.a.value)) ∙ sym (ap (λ (f : FormTree). query_of_one p f s x) (tree_of_keep c.args.form.now c.in-Keep.a c.in-Keep.names c.in-Keep.is))) c.left_query-in-Keep.ensures

pub returns-in-DropNamed : goal.returns-in-DropNamed
returns-in-DropNamed c =
    let p = c.args.writer.now in
    let s = c.args.s.now in
    let x = c.args.table.now in
    IfOk-weaker c.left_query-in-DropNamed.result _ _ (λ q e. e (structure_of (node_tree c.in-DropNamed.a.value)) ∙ sym (ap (λ (f : FormTree). query_of_one p f s x) (tree_of_drop c.args.form.now c.in-DropNamed.a c.in-DropNamed.names c.in-DropNamed.is))) c.left_query-in-DropNamed.ensures
