use Rattle.std.proofs.Common.{◌<◌, ◌^◌, List, length, arith, subst}
use Rattle.std.specs.List.{AllByRecursion}
use Rattle.vtl_tree.specs.View.{comp_exp_of}
use Rattle.vtl_tree.specs.NodeView.{node_tree, point_rule_tree, value_tree}
use Rattle.vtl_tree.specs.declared.rules.DatapointRule.{DatapointRule}
use Rattle.vtl_meaning.specs.Operators.{value_exp}
use Rattle.expressions_to_sql.specs.Held.{HoldsValues}
use Rattle.vtl_to_sql.specs.Accepted.{HoldsParts, RuleHoldsValues, RulesHoldTexts}
use Rattle.vtl_to_sql.proofs.HeldConstants.{calc_node_held, check_node_held, checked_node_held, computed_node_held, datapoint_node_held, intersect_node_held, join_node_held, measures_node_held, pair_node_held, union_node_held}
use Rattle.vtl_to_sql.proofs.constants.+constants.Goals as goal

pub node_is_held-returns-in-Measures : goal.node_is_held-returns-in-Measures
node_is_held-returns-in-Measures t c =
    measures_node_held c.args.node.now c.in-Measures.op c.in-Measures.a c.in-Measures.is
    (subst (λ n. HoldsParts (node_tree n)) c.deref.ensures c.node_is_held.ensures)
    (subst (AllByRecursion (λ x. HoldsValues (comp_exp_of x))) c.as_slice.ensures c.expressions_are_held.ensures)
    (subst (AllByRecursion (λ x. HoldsValues (comp_exp_of x))) c.as_slice-in-Measures.ensures c.expressions_are_held-in-Measures.ensures)

pub node_is_held-returns-in-Calc : goal.node_is_held-returns-in-Calc
node_is_held-returns-in-Calc t c =
    calc_node_held c.args.node.now c.in-Calc.a c.in-Calc.items c.in-Calc.is
    (subst (λ n. HoldsParts (node_tree n)) c.deref-in-Calc.ensures c.node_is_held-in-Calc.ensures)
    (subst (AllByRecursion (λ i. HoldsValues (value_exp (value_tree i.value)))) c.as_slice-in-Calc.ensures c.targets_are_held.ensures.exps)

pub node_is_held-returns-in-Pair : goal.node_is_held-returns-in-Pair
node_is_held-returns-in-Pair t c =
    pair_node_held c.args.node.now c.in-Pair.op c.in-Pair.a c.in-Pair.b c.in-Pair.is
    (subst (λ n. HoldsParts (node_tree n)) c.deref-in-Pair.ensures c.node_is_held-in-Pair.ensures)
    (subst (λ n. HoldsParts (node_tree n)) c.deref-in-Pair-2.ensures c.node_is_held-in-Pair-2.ensures)

pub node_is_held-returns-in-Union : goal.node_is_held-returns-in-Union
node_is_held-returns-in-Union t c =
    union_node_held c.args.node.now c.in-Union.nodes c.in-Union.is (subst (AllByRecursion (λ n. HoldsParts (node_tree n))) c.deref-in-Union.ensures.value c.nodes_are_held.ensures)

pub node_is_held-returns-in-Intersect : goal.node_is_held-returns-in-Intersect
node_is_held-returns-in-Intersect t c =
    intersect_node_held c.args.node.now c.in-Intersect.nodes c.in-Intersect.is (subst (AllByRecursion (λ n. HoldsParts (node_tree n))) c.deref-in-Intersect.ensures.value c.nodes_are_held-in-Intersect.ensures)

pub node_is_held-returns-in-Join : goal.node_is_held-returns-in-Join
node_is_held-returns-in-Join t c =
    let small = c.in-Join.operands.small in
    let ok = c.in-Join.operands.ok in
    let many = c.len-numbered.ensures in
    join_node_held c.args.node.now c.in-Join.operands c.in-Join.spec c.in-Join.is (subst (AllByRecursion (λ o. HoldsParts (node_tree o.node))) c.deref-in-Join.ensures.value c.operands_are_held.ensures) (omega (arith, small, ok, many))

pub node_is_held-returns-in-Check : goal.node_is_held-returns-in-Check
node_is_held-returns-in-Check t c =
    check_node_held c.args.node.now c.in-Check.a c.in-Check.imbalance c.in-Check.spec c.in-Check.is (subst (λ n. HoldsParts (node_tree n)) c.deref-in-Check.ensures c.node_is_held-in-Check.ensures) c.maybe_is_held.ensures c.errors_are_held.ensures

pub node_is_held-returns-in-CheckDatapoint : goal.node_is_held-returns-in-CheckDatapoint
node_is_held-returns-in-CheckDatapoint t c =
    datapoint_node_held c.args.node.now c.in-CheckDatapoint.a c.in-CheckDatapoint.rules c.in-CheckDatapoint.out c.in-CheckDatapoint.is (subst (λ n. HoldsParts (node_tree n)) c.deref-in-CheckDatapoint.ensures c.node_is_held-in-CheckDatapoint.ensures)
    (subst (AllByRecursion (λ r. RuleHoldsValues (point_rule_tree r))) c.as_slice-in-CheckDatapoint.ensures c.rules_are_held.ensures.rules) (subst (λ (l : List DatapointRule). length l < 2 ^ 64) c.as_slice-in-CheckDatapoint.ensures c.rules_are_held.ensures.few)

pub node_is_held-returns-in-CheckHierarchy : goal.node_is_held-returns-in-CheckHierarchy
node_is_held-returns-in-CheckHierarchy t c =
    let x = c.in-CheckHierarchy in
    checked_node_held c.args.node.now x.a x.rules x.mode x.out x.is (subst (λ n. HoldsParts (node_tree n)) c.deref-in-CheckHierarchy.ensures c.node_is_held-in-CheckHierarchy.ensures) (subst RulesHoldTexts c.as_slice-in-CheckHierarchy.ensures c.hierarchy_is_held.ensures)

pub node_is_held-returns-in-Hierarchy : goal.node_is_held-returns-in-Hierarchy
node_is_held-returns-in-Hierarchy t c =
    let x = c.in-Hierarchy in
    computed_node_held c.args.node.now x.a x.rules x.mode x.input x.out x.is (subst (λ n. HoldsParts (node_tree n)) c.deref-in-Hierarchy.ensures c.node_is_held-in-Hierarchy.ensures) (subst RulesHoldTexts c.as_slice-in-Hierarchy.ensures c.hierarchy_is_held-in-Hierarchy.ensures)
