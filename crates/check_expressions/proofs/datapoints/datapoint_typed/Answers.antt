use Rattle.std.proofs.Common.{rules, ◌≡◌, ◌∙◌, Ok, Err, ap, map, subst, sym, refl}
use Rattle.std.specs.Prelude.{unwrap_or}
use Rattle.vtl_syntax.specs.declared.word_groups.CheckOut.TheVariants as out
use Rattle.vtl_tree.specs.NodeView.{node_tree, point_rule_tree}
use Rattle.vtl_tree.specs.declared.nodes.Node.{Node}
use Rattle.check_faults.specs.Answers.{Answers}
use Rattle.check_operators.specs.Places.{env_of}
use Rattle.check_operators.specs.Typed.{boxed_tree, typed_tree}
use Rattle.check_operators.specs.declared.places.Place.TheVariants as at
use Rattle.vtl_tree.proofs.NodeLemmas.{structure-there}
use Rattle.check_clauses.proofs.ClauseErrors.{refused}
use Rattle.check_rules.specs.Calls.{variables_known}
use Rattle.check_expressions.specs.Defined.{point_definition_view}
use Rattle.check_expressions.specs.Rulesets.{at_variables, checked_points, point_rules_typed}
use Rattle.check_expressions.proofs.PointLemmas.{call_typed}
use Rattle.check_expressions.proofs.datapoints.datapoint_typed.Goals as goal

pub returns-in_err-rules : goal.returns-in_err-rules
returns-in_err-rules c =
    let env = env_of c.args.scope.now in
    let d = point_definition_view c.args.definition in
    let a = boxed_tree c.args.node in
    let names = c.in_ok-names.names in
    let fault = c.in_err-rules.field-0.0 in
    let typed = point_rules_typed env c.in_ok-place.place d.rules in
    let known = ap (λ (n : Node). variables_known d.variables n.structure) (sym c.deref.ensures) ∙ c.in_ok-names.ensures in
    let there : c.in_ok-place.place ≡ at.Inside (at_variables names a) =
    c.in_ok-place.ensures
    ∙ ap (λ l. at.Inside (at_variables l (node_tree c.deref-2.result.now))) c.as_slice.ensures
    ∙ ap (λ (n : Node). at.Inside (at_variables names (node_tree n))) c.deref-2.ensures in
    let passed : c.from_residual-in_err-rules.result ≡ Err fault = search rules in
    rw passed
    (subst (Answers typed_tree (Err fault)) (sym (call_typed env c.args.output d a c.args.node.value.structure names c.in_ok-place.place typed (structure-there c.args.node.value) known there refl))
    (refused (λ rules. map point_rule_tree rules) typed_tree fault typed (checked_points (unwrap_or c.args.output out.Invalid) a names) c.in_err-rules.ensures))

pub returns : goal.returns
returns c =
    let a = boxed_tree c.args.node in
    let d = point_definition_view c.args.definition in
    let names = c.in_ok-names.names in
    let rules = map point_rule_tree c.in_ok-rules.rules in
    let known = ap (λ (n : Node). variables_known d.variables n.structure) (sym c.deref.ensures) ∙ c.in_ok-names.ensures in
    let there : c.in_ok-place.place ≡ at.Inside (at_variables names a) =
    c.in_ok-place.ensures
    ∙ ap (λ l. at.Inside (at_variables l (node_tree c.deref-2.result.now))) c.as_slice.ensures
    ∙ ap (λ (n : Node). at.Inside (at_variables names (node_tree n))) c.deref-2.ensures in
    subst (Answers typed_tree c.checked_points.result)
    (ap (λ o. checked_points o a names rules) c.unwrap_or-out.ensures
    ∙ sym (call_typed (env_of c.args.scope.now) c.args.output d a c.args.node.value.structure names c.in_ok-place.place (Ok rules) (structure-there c.args.node.value) known there c.in_ok-rules.ensures))
    c.checked_points.ensures
