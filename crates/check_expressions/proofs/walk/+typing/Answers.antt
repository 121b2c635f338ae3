use denote.Param.Weighed.{most}
use Rattle.std.proofs.Common.{arith, rules, ◌≡◌, ◌<◌, ◌+◌, ◌*◌, ◌∙◌, Err, Ok, Some, ap, map, refl, subst, sym}
use Rattle.std.specs.Option.{option_map}
use Rattle.vtl_syntax.proofs.expressions.JoinPart.TheLaws as part_laws
use Rattle.vtl_syntax.specs.Trees.{maybe_targets}
use Rattle.vtl_syntax.specs.View.{targets_tree}
use Rattle.vtl_tree.specs.NodeView.{operand_tree}
use Rattle.check_faults.specs.Answers.{Answers}
use Rattle.check_operators.specs.Typed.{boxed_tree, typed_tree}
use Rattle.check_clauses.specs.JoinOperands.{joined_of}
use Rattle.check_clauses.specs.JoinView.{operands_view, parts_view}
use Rattle.check_clauses.proofs.ClauseErrors.{refused}
use Rattle.check_expressions.specs.Rulings.{sight_in}
use Rattle.check_expressions.specs.Typing.{filtered_join, join_end}
use Rattle.check_expressions.specs.WalkView.{maybe_tree}
use Rattle.check_expressions.proofs.WalkLemmas.{aggregate_typed, join_typed, parts_less_deep}
use Rattle.check_expressions.proofs.walk.+typing.Goals as goal

pub typing-join_parts-requires : goal.typing-join_parts-requires
typing-join_parts-requires g t c =
    let less_deep = parts_less_deep c.args.e.now c.in-Join.kind c.in-Join.operands c.in-Join.using c.in-Join.filter c.in-Join.targets c.in-Join.keeping c.in-Join.renames c.in-Join.is c.deref-in-Join.result.now c.deref-in-Join.ensures.value in
    let measure = c.decreases in
    let falls : 4 * most (λ x. part_laws.the_size x) c.deref-in-Join.result.now + 2 < t = omega (arith, measure, less_deep) in
    λ κs h. (falls, h)

pub typing-returns-in_err-node-in-Join : goal.typing-returns-in_err-node-in-Join
typing-returns-in_err-node-in-Join g t c =
    let joined : c.in_ok-joined-in-Join.joined ≡ Some (joined_of c.in-Join.kind (operands_view c.in_ok-operands-in-Join.operands)) =
    c.in_ok-joined-in-Join.ensures ∙ ap (λ l. Some (joined_of c.in-Join.kind (map operand_tree l))) c.deref-in-Join-2.ensures.value in
    let sight = sight_in c.args.scope.now (g.R.Rulesets.called c.args.rulesets.now) in
    let filtered = filtered_join sight c.in_ok-joined-in-Join.joined (maybe_tree c.in-Join.filter) c.in-Join.kind c.in-Join.using (operands_view c.in_ok-operands-in-Join.operands) in
    let fault = c.in_err-node-in-Join.field-0.0 in
    let passed : c.from_residual-in_err-node-in-Join.result ≡ Err fault = search rules in
    rw passed
    (subst (Answers typed_tree (Err fault))
    (sym (join_typed sight c.args.place.now c.args.e.now c.in-Join.kind c.in-Join.operands c.in-Join.using c.in-Join.filter c.in-Join.targets c.in-Join.keeping c.in-Join.renames c.in-Join.is c.deref-in-Join.result.now c.deref-in-Join.ensures.value (parts_view c.in_ok-parts-in-Join.parts) (operands_view c.in_ok-operands-in-Join.operands) c.in_ok-joined-in-Join.joined filtered c.in_ok-parts-in-Join.ensures c.in_ok-operands-in-Join.ensures joined refl))
    (refused boxed_tree typed_tree fault filtered (join_end sight c.in_ok-joined-in-Join.joined (maybe_targets (option_map targets_tree c.in-Join.targets)) c.in-Join.keeping c.in-Join.renames) c.in_err-node-in-Join.ensures))

pub typing-returns-in_ok-node-in-Join : goal.typing-returns-in_ok-node-in-Join
typing-returns-in_ok-node-in-Join g t c =
    let joined : c.in_ok-joined-in-Join.joined ≡ Some (joined_of c.in-Join.kind (operands_view c.in_ok-operands-in-Join.operands)) =
    c.in_ok-joined-in-Join.ensures ∙ ap (λ l. Some (joined_of c.in-Join.kind (map operand_tree l))) c.deref-in-Join-2.ensures.value in
    subst (λ r. Answers typed_tree c.join_end.result r)
    (sym (join_typed (sight_in c.args.scope.now (g.R.Rulesets.called c.args.rulesets.now)) c.args.place.now c.args.e.now c.in-Join.kind c.in-Join.operands c.in-Join.using c.in-Join.filter c.in-Join.targets c.in-Join.keeping c.in-Join.renames c.in-Join.is c.deref-in-Join.result.now c.deref-in-Join.ensures.value (parts_view c.in_ok-parts-in-Join.parts) (operands_view c.in_ok-operands-in-Join.operands) c.in_ok-joined-in-Join.joined (Ok (boxed_tree c.in_ok-node-in-Join.node)) c.in_ok-parts-in-Join.ensures c.in_ok-operands-in-Join.ensures joined c.in_ok-node-in-Join.ensures))
    c.join_end.ensures

pub typing-returns-in_ok-typed-in-Aggregate : goal.typing-returns-in_ok-typed-in-Aggregate
typing-returns-in_ok-typed-in-Aggregate g t c =
    subst (λ r. Answers typed_tree c.grouped.result r)
    (sym (aggregate_typed (sight_in c.args.scope.now (g.R.Rulesets.called c.args.rulesets.now)) c.args.place.now c.args.e.now c.in-Aggregate.function c.in-Aggregate.operand c.in-Aggregate.group c.in-Aggregate.having c.in-Aggregate.is (option_map typed_tree c.in_ok-typed-in-Aggregate.typed) c.in_ok-typed-in-Aggregate.ensures))
    c.grouped.ensures
