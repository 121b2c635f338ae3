use Rattle.std.proofs.Common.{map, ap, ◌∙◌, ◌++◌}
use Rattle.std.proofs.lemmas.Result.{IfOk-weaker}
use Rattle.sql_tree.specs.View.{query_tree, statement_tree}
use Rattle.selects_to_sql.specs.Tables.{Made, create_for}
use Rattle.vtl_tree.specs.NodeView.{node_tree}
use Rattle.vtl_tree.specs.Trees.{structure_of}
use Rattle.vtl_tree.specs.declared.nodes.Node.{Node}
use Rattle.vtl_to_sql.proofs.RuledNodes.{all_next, all_query, all_tables, check_is, computed_is}
use Rattle.vtl_to_sql.proofs.ruled_queries.ruled_query.Goals as goal

pub returns-in-CheckHierarchy-clause-query : goal.returns-in-CheckHierarchy-clause-query
returns-in-CheckHierarchy-clause-query c =
    let x = c.in-CheckHierarchy in
    let made = c.operand-a.ensures in
    let same = check_is c.args.writer.now c.args.target.now c.args.s.now c.operand-a.result.structure.now c.args.form.now x.a x.rules x.mode x.out c.operand-a.result.table.now c.args.table.now c.args.draft.now.next x.is (made.structure ∙ ap (λ (n : Node). structure_of (node_tree n)) c.deref.ensures) made.table in
    IfOk-weaker c.check_hierarchy_query.result _ _ (λ q e. e ∙ ap (λ (m : Made). m.query) same) c.check_hierarchy_query.ensures.query

pub returns-in-CheckHierarchy-clause-tables : goal.returns-in-CheckHierarchy-clause-tables
returns-in-CheckHierarchy-clause-tables c =
    let x = c.in-CheckHierarchy in
    let made = c.operand-a.ensures in
    let old = map statement_tree c.args.draft.now.statements.items in
    let same = check_is c.args.writer.now c.args.target.now c.args.s.now c.operand-a.result.structure.now c.args.form.now x.a x.rules x.mode x.out c.operand-a.result.table.now c.args.table.now c.args.draft.now.next x.is (made.structure ∙ ap (λ (n : Node). structure_of (node_tree n)) c.deref.ensures) made.table in
    IfOk-weaker c.check_hierarchy_query.result _ _ (λ q e. e ∙ ap (λ (m : Made). old ++ map create_for m.tables) same) c.check_hierarchy_query.ensures.tables

pub returns-in-CheckHierarchy-clause-next : goal.returns-in-CheckHierarchy-clause-next
returns-in-CheckHierarchy-clause-next c =
    let x = c.in-CheckHierarchy in
    let made = c.operand-a.ensures in
    let same = check_is c.args.writer.now c.args.target.now c.args.s.now c.operand-a.result.structure.now c.args.form.now x.a x.rules x.mode x.out c.operand-a.result.table.now c.args.table.now c.args.draft.now.next x.is (made.structure ∙ ap (λ (n : Node). structure_of (node_tree n)) c.deref.ensures) made.table in
    IfOk-weaker c.check_hierarchy_query.result _ _ (λ q e. e ∙ ap (λ (m : Made). m.next) same) c.check_hierarchy_query.ensures.next

pub returns-in-Computed-clause-query : goal.returns-in-Computed-clause-query
returns-in-Computed-clause-query c =
    let x = c.in-Hierarchy in
    let made = c.operand-a-in-Hierarchy.ensures in
    c.in_ok-computed-in-Hierarchy.ensures.query ∙ ap (λ (m : Made). m.query) (computed_is c.args.writer.now c.args.target.now c.args.s.now c.operand-a-in-Hierarchy.result.structure.now c.args.form.now x.a x.rules x.mode x.input x.out c.places-order.result.now c.operand-a-in-Hierarchy.result.table.now c.args.table.now c.args.draft.now.next x.is (made.structure ∙ ap (λ (n : Node). structure_of (node_tree n)) c.deref-in-Hierarchy.ensures) made.table c.places-order.ensures c.in-Computed.is)

pub returns-in-Computed-clause-tables : goal.returns-in-Computed-clause-tables
returns-in-Computed-clause-tables c =
    let x = c.in-Hierarchy in
    let made = c.operand-a-in-Hierarchy.ensures in
    c.in_ok-computed-in-Hierarchy.ensures.tables ∙ ap (λ (m : Made). map statement_tree c.args.draft.now.statements.items ++ map create_for m.tables) (computed_is c.args.writer.now c.args.target.now c.args.s.now c.operand-a-in-Hierarchy.result.structure.now c.args.form.now x.a x.rules x.mode x.input x.out c.places-order.result.now c.operand-a-in-Hierarchy.result.table.now c.args.table.now c.args.draft.now.next x.is (made.structure ∙ ap (λ (n : Node). structure_of (node_tree n)) c.deref-in-Hierarchy.ensures) made.table c.places-order.ensures c.in-Computed.is)

pub returns-in-Computed-clause-next : goal.returns-in-Computed-clause-next
returns-in-Computed-clause-next c =
    let x = c.in-Hierarchy in
    let made = c.operand-a-in-Hierarchy.ensures in
    c.in_ok-computed-in-Hierarchy.ensures.next ∙ ap (λ (m : Made). m.next) (computed_is c.args.writer.now c.args.target.now c.args.s.now c.operand-a-in-Hierarchy.result.structure.now c.args.form.now x.a x.rules x.mode x.input x.out c.places-order.result.now c.operand-a-in-Hierarchy.result.table.now c.args.table.now c.args.draft.now.next x.is (made.structure ∙ ap (λ (n : Node). structure_of (node_tree n)) c.deref-in-Hierarchy.ensures) made.table c.places-order.ensures c.in-Computed.is)

pub returns-in-All-clause-query : goal.returns-in-All-clause-query
returns-in-All-clause-query c =
    let x = c.in-Hierarchy in
    let made = c.operand-a-in-Hierarchy.ensures in
    let made_by = c.in_ok-computed-in-Hierarchy.ensures in
    IfOk-weaker c.with_others.result _ _ (λ q e. e c.args.s.now c.operand-a-in-Hierarchy.result.structure.now ∙ all_query c.args.writer.now c.args.target.now c.args.s.now c.operand-a-in-Hierarchy.result.structure.now c.args.form.now x.a x.rules x.mode x.input x.out c.places-order.result.now c.operand-a-in-Hierarchy.result.table.now c.args.table.now c.args.draft.now.next x.is (made.structure ∙ ap (λ (n : Node). structure_of (node_tree n)) c.deref-in-Hierarchy.ensures) made.table c.places-order.ensures c.in-All.is c.computed_points_query.new.draft.next made_by.next) c.with_others.ensures.query

pub returns-in-All-clause-tables : goal.returns-in-All-clause-tables
returns-in-All-clause-tables c =
    let x = c.in-Hierarchy in
    let made = c.operand-a-in-Hierarchy.ensures in
    let made_by = c.in_ok-computed-in-Hierarchy.ensures in
    IfOk-weaker c.with_others.result _ _ (λ q e. all_tables c.args.writer.now c.args.target.now c.args.s.now c.operand-a-in-Hierarchy.result.structure.now c.args.form.now x.a x.rules x.mode x.input x.out c.places-order.result.now c.operand-a-in-Hierarchy.result.table.now c.args.table.now c.args.draft.now.next x.is (made.structure ∙ ap (λ (n : Node). structure_of (node_tree n)) c.deref-in-Hierarchy.ensures) made.table c.places-order.ensures c.in-All.is c.computed_points_query.new.draft.next made_by.next (query_tree c.in_ok-computed-in-Hierarchy.computed) (map statement_tree c.args.draft.now.statements.items) (map statement_tree c.computed_points_query.new.draft.statements.items) (map statement_tree c.with_others.new.draft.statements.items) made_by.query made_by.tables e) c.with_others.ensures.tables

pub returns-in-All-clause-next : goal.returns-in-All-clause-next
returns-in-All-clause-next c =
    let x = c.in-Hierarchy in
    let made = c.operand-a-in-Hierarchy.ensures in
    let made_by = c.in_ok-computed-in-Hierarchy.ensures in
    IfOk-weaker c.with_others.result _ _ (λ q e. e ∙ all_next c.args.writer.now c.args.target.now c.args.s.now c.operand-a-in-Hierarchy.result.structure.now c.args.form.now x.a x.rules x.mode x.input x.out c.places-order.result.now c.operand-a-in-Hierarchy.result.table.now c.args.table.now c.args.draft.now.next x.is (made.structure ∙ ap (λ (n : Node). structure_of (node_tree n)) c.deref-in-Hierarchy.ensures) made.table c.places-order.ensures c.in-All.is c.computed_points_query.new.draft.next made_by.next) c.with_others.ensures.next
