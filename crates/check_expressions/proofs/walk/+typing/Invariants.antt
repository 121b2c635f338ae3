use Rattle.std.proofs.Common.{◌≡◌, drop, map, []}
use Rattle.vtl_tree.specs.NodeView.{node_tree}
use Rattle.vtl_syntax.specs.Trees.{calcs_of, exps_of, parts_of}
use Rattle.vtl_syntax.specs.View.{calc_tree, expr_tree, part_tree}
use Rattle.check_operators.specs.Typed.{typed_trees}
use Rattle.check_clauses.specs.JoinView.{parts_view}
use Rattle.check_clauses.specs.TargetsView.{items_view}
use Rattle.check_expressions.specs.Rulings.{sight_in}
use Rattle.check_expressions.specs.Typing.{aggrs_typed, calcs_typed, operands_typed, parts_typed}
use Rattle.check_expressions.proofs.walk.+typing.Given as goal

abbrev pub invariant-all-loop-e : goal.invariant-all-loop-e
invariant-all-loop-e g l = operands_typed (sight_in l.scope (g.R.Rulesets.called l.rulesets)) l.place (typed_trees l.operands) (exps_of (map expr_tree (drop l.e-index l.es))) ≡ operands_typed (sight_in l.scope (g.R.Rulesets.called l.rulesets)) l.place [] (exps_of (map expr_tree l.es))

abbrev pub invariant-items-loop-part : goal.invariant-items-loop-part
invariant-items-loop-part g l = calcs_typed (sight_in l.scope (g.R.Rulesets.called l.rulesets)) l.place (node_tree l.node) (items_view l.items) (calcs_of (map calc_tree (drop l.part-index l.parts))) ≡ calcs_typed (sight_in l.scope (g.R.Rulesets.called l.rulesets)) l.place (node_tree l.node) [] (calcs_of (map calc_tree l.parts))

abbrev pub invariant-made-loop-part : goal.invariant-made-loop-part
invariant-made-loop-part g l = aggrs_typed (sight_in l.scope (g.R.Rulesets.called l.rulesets)) l.place l.made.items (calcs_of (map calc_tree (drop l.part-index l.parts))) ≡ aggrs_typed (sight_in l.scope (g.R.Rulesets.called l.rulesets)) l.place [] (calcs_of (map calc_tree l.parts))

abbrev pub invariant-join_parts-loop-part : goal.invariant-join_parts-loop-part
invariant-join_parts-loop-part g l = parts_typed (sight_in l.scope (g.R.Rulesets.called l.rulesets)) (parts_view l.parts) (parts_of (map part_tree (drop l.part-index l.written))) ≡ parts_typed (sight_in l.scope (g.R.Rulesets.called l.rulesets)) [] (parts_of (map part_tree l.written))
