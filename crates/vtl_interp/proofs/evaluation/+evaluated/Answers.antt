use Rattle.std.proofs.Common.{rules, ◌≡◌, List, Ok, Err, ap, length, map, subst, sym, ◌∙◌}
use Rattle.std.proofs.lemmas.List.{length-map}
use Rattle.vtl_cell.specs.Outcome.{after}
use Rattle.vtl_scalar.specs.Answers.{AnswersBy}
use Rattle.vtl_sets.specs.DataSets.{with_structure}
use Rattle.vtl_tree.specs.Clauses.{filter_of}
use Rattle.vtl_tree.specs.Trees as nodes
use Rattle.vtl_tree.specs.Trees.{nodes_of, operands_of}
use Rattle.vtl_tree.specs.NodeView.{node_tree, operand_tree}
use Rattle.vtl_tree.specs.View.{comp_exp_of}
use Rattle.vtl_tree.specs.declared.structure.Structure.{Structure}
use Rattle.vtl_tree.specs.declared.nodes.JoinOperand.{JoinOperand}
use Rattle.vtl_tree.specs.declared.nodes.NodeForm.TheVariants as form
use Rattle.vtl_tree.proofs.NodeLemmas.{structure-there}
use Rattle.vtl_meaning.specs.Joined.{join_of, structures_of}
use Rattle.vtl_meaning.specs.Made.{AreCombined, IsFiltered, IsJoined}
use Rattle.vtl_scripts.specs.Meaning.{node_value, nodes_value, operands_value}
use Rattle.vtl_meaning.specs.Shapes.{IsJoinedFrom}
use Rattle.vtl_interp.specs.Evaluated.{Evaluates, Gives}
use Rattle.vtl_interp.specs.Values.{maybe_view, under_aliases, value_view, values_view}
use Rattle.vtl_interp.proofs.Evaluates.{operands_named}
use Rattle.vtl_interp.proofs.NodesEvaluated.{check_fits, check_gives, choice_gives, choose_fits, filter_after, filter_gives, filter_joined, filter_operands_stop, filter_stops, form_tree-Intersect, form_tree-Union, imbalance_stops, join_fits, join_named, name_gives, name_is_held, second_stops, several_fit}
use Rattle.vtl_interp.proofs.evaluation.+evaluated.Goals as goal

pub evaluate-unreachable-requires : goal.evaluate-unreachable-requires
evaluate-unreachable-requires t c = name_is_held c.args.p.now c.args.known.now.entries c.args.node.now c.in-Named.name c.in-Named.is c.requires.made (sym c.in-None.ensures.value)

pub evaluate-returns-in-Some : goal.evaluate-returns-in-Some
evaluate-returns-in-Some t c = name_gives c.args.p.now c.args.known.now.entries c.args.node.now c.in-Named.name c.in-Some.set.now c.in-Named.is c.requires.made (sym c.in-Some.ensures.value)

pub evaluate-choose-requires : goal.evaluate-choose-requires
evaluate-choose-requires t c =
    let env = c.args.known.now.entries in
    let v = value_view c.in_ok-condition-in-Choose.condition in
    let w = value_view c.in_ok-first-in-Choose.first in
    let x = value_view c.in_ok-second-in-Choose.second in
    choose_fits c.args.p.now env c.args.node.now c.in-Choose.c c.in-Choose.a c.in-Choose.b v w x c.in-Choose.is c.requires.made
    (subst (λ n. Gives c.args.p.now env (node_tree n) v) c.deref-in-Choose.ensures c.in_ok-condition-in-Choose.ensures)
    (subst (λ n. Gives c.args.p.now env (node_tree n) w) c.deref-in-Choose-2.ensures c.in_ok-first-in-Choose.ensures)
    (subst (λ n. Gives c.args.p.now env (node_tree n) x) c.deref-in-Choose-3.ensures c.in_ok-second-in-Choose.ensures)

pub evaluate-returns-in_ok-second-in-Choose : goal.evaluate-returns-in_ok-second-in-Choose
evaluate-returns-in_ok-second-in-Choose t c =
    let env = c.args.known.now.entries in
    let v = value_view c.in_ok-condition-in-Choose.condition in
    let w = value_view c.in_ok-first-in-Choose.first in
    let x = value_view c.in_ok-second-in-Choose.second in
    choice_gives value_view c.args.p.now env c.args.node.now c.in-Choose.c c.in-Choose.a c.in-Choose.b v w x c.choose.result c.in-Choose.is
    (subst (λ n. Gives c.args.p.now env (node_tree n) v) c.deref-in-Choose.ensures c.in_ok-condition-in-Choose.ensures)
    (subst (λ n. Gives c.args.p.now env (node_tree n) w) c.deref-in-Choose-2.ensures c.in_ok-first-in-Choose.ensures)
    (subst (λ n. Gives c.args.p.now env (node_tree n) x) c.deref-in-Choose-3.ensures c.in_ok-second-in-Choose.ensures)
    c.choose.ensures

pub evaluate-returns-in_err-right-in-Pair : goal.evaluate-returns-in_err-right-in-Pair
evaluate-returns-in_err-right-in-Pair t c =
    let env = c.args.known.now.entries in
    let e = c.in_err-right-in-Pair.field-0.0 in
    let left = value_view c.in_ok-left-in-Pair.left in
    let passed : c.from_residual-in_err-right-in-Pair.result ≡ Err e = search rules in
    rw passed (second_stops value_view value_view c.args.p.now env c.args.node.now c.in-Pair.a c.in-Pair.b left e c.in-Pair.is
    (subst (λ n. Gives c.args.p.now env (node_tree n) left) c.deref-in-Pair.ensures c.in_ok-left-in-Pair.ensures)
    (subst (λ n. Evaluates value_view c.args.p.now env (node_tree n) (Err e)) c.deref-in-Pair-2.ensures c.in_err-right-in-Pair.ensures))

pub evaluate-join-requires-clause-joined : goal.evaluate-join-requires-clause-joined
evaluate-join-requires-clause-joined t c =
    let env = c.args.known.now.entries in
    let os = c.in-Join.operands in
    let sets = c.in_ok-sets-in-Join.sets in
    subst (λ xs. IsJoined c.in-Join.spec.kind (structures_of (map value_view xs)) c.args.node.now.structure) (sym c.deref-in-Join-2.ensures.value)
    (join_fits c.args.p.now env c.args.node.now os c.in-Join.spec (values_view sets) c.in-Join.is c.requires.made
    (subst (λ xs. operands_value c.args.p.now env (operands_of (map operand_tree xs)) ≡ Ok (values_view sets)) c.deref-in-Join.ensures.value c.in_ok-sets-in-Join.ensures))

pub evaluate-join-requires-clause-from : goal.evaluate-join-requires-clause-from
evaluate-join-requires-clause-from t c =
    let env = c.args.known.now.entries in
    let os = c.in-Join.operands in
    let sets = c.in_ok-sets-in-Join.sets in
    subst (λ xs. IsJoinedFrom c.in-Join.spec.kind (under_aliases (map (λ o. o.alias) c.deref-in-Join-3.result.now) (structures_of (map value_view xs))) c.args.node.now.structure) (sym c.deref-in-Join-2.ensures.value)
    (subst (λ (xs : List JoinOperand). IsJoinedFrom c.in-Join.spec.kind (under_aliases (map (λ o. o.alias) xs) (structures_of (values_view sets))) c.args.node.now.structure) (sym c.deref-in-Join-3.ensures.value)
    (join_named c.args.p.now env c.args.node.now os c.in-Join.spec (values_view sets) c.in-Join.is c.requires.made
    (subst (λ xs. operands_value c.args.p.now env (operands_of (map operand_tree xs)) ≡ Ok (values_view sets)) c.deref-in-Join.ensures.value c.in_ok-sets-in-Join.ensures)))

pub evaluate-join-requires-clause-named : goal.evaluate-join-requires-clause-named
evaluate-join-requires-clause-named t c =
    let env = c.args.known.now.entries in
    let os = c.in-Join.operands in
    let sets = c.in_ok-sets-in-Join.sets in
    ap length c.deref-in-Join-2.ensures.value
    ∙ sym (length-map sets.items value_view)
    ∙ operands_named c.args.p.now env (map operand_tree os.items) (values_view sets)
    (subst (λ xs. operands_value c.args.p.now env (operands_of (map operand_tree xs)) ≡ Ok (values_view sets)) c.deref-in-Join.ensures.value c.in_ok-sets-in-Join.ensures)
    ∙ length-map os.items operand_tree
    ∙ sym (ap length c.deref-in-Join-3.ensures.value)

pub evaluate-union-requires : goal.evaluate-union-requires
evaluate-union-requires t c =
    let env = c.args.known.now.entries in
    let ns = c.in-Union.nodes in
    let sets = c.in_ok-sets-in-Union.sets in
    subst (λ xs. AreCombined (structures_of (map value_view xs)) c.args.node.now.structure) (sym c.deref-in-Union-2.ensures.value)
    (several_fit c.args.p.now env c.args.node.now (form.Union ns) ns.items (values_view sets) (nodes.union (nodes_of (map node_tree ns.items))) c.in-Union.is (form_tree-Union ns) (λ m. m.1) c.requires.made
    (subst (λ xs. nodes_value c.args.p.now env (nodes_of (map node_tree xs)) ≡ Ok (values_view sets)) c.deref-in-Union.ensures.value c.in_ok-sets-in-Union.ensures))

pub evaluate-intersect-requires : goal.evaluate-intersect-requires
evaluate-intersect-requires t c =
    let env = c.args.known.now.entries in
    let ns = c.in-Intersect.nodes in
    let sets = c.in_ok-sets-in-Intersect.sets in
    subst (λ xs. AreCombined (structures_of (map value_view xs)) c.args.node.now.structure) (sym c.deref-in-Intersect-2.ensures.value)
    (several_fit c.args.p.now env c.args.node.now (form.Intersect ns) ns.items (values_view sets) (nodes.intersect (nodes_of (map node_tree ns.items))) c.in-Intersect.is (form_tree-Intersect ns) (λ m. m.1) c.requires.made
    (subst (λ xs. nodes_value c.args.p.now env (nodes_of (map node_tree xs)) ≡ Ok (values_view sets)) c.deref-in-Intersect.ensures.value c.in_ok-sets-in-Intersect.ensures))

pub evaluate-check-requires : goal.evaluate-check-requires
evaluate-check-requires t c =
    let env = c.args.known.now.entries in
    let x = c.in-Check in
    let d = value_view c.in_ok-tested-in-Check.tested in
    check_fits c.args.p.now env c.args.node.now x.a x.imbalance x.spec d (maybe_view c.in_ok-other-in-Check.other) x.is c.requires.made
    (subst (λ n. Gives c.args.p.now env (node_tree n) d) c.deref-in-Check.ensures c.in_ok-tested-in-Check.ensures)
    c.in_ok-other-in-Check.ensures

pub evaluate-returns-in_ok-other-in-Check : goal.evaluate-returns-in_ok-other-in-Check
evaluate-returns-in_ok-other-in-Check t c =
    let env = c.args.known.now.entries in
    let x = c.in-Check in
    let d = value_view c.in_ok-tested-in-Check.tested in
    check_gives value_view c.args.p.now env c.args.node.now x.a x.imbalance x.spec d (maybe_view c.in_ok-other-in-Check.other) c.check.result x.is
    (subst (λ n. Gives c.args.p.now env (node_tree n) d) c.deref-in-Check.ensures c.in_ok-tested-in-Check.ensures)
    c.in_ok-other-in-Check.ensures c.check.ensures

pub evaluate-returns-in_err-other-in-Check : goal.evaluate-returns-in_err-other-in-Check
evaluate-returns-in_err-other-in-Check t c =
    let env = c.args.known.now.entries in
    let x = c.in-Check in
    let d = value_view c.in_ok-tested-in-Check.tested in
    let e = c.in_err-other-in-Check.field-0.0 in
    let passed : c.from_residual-in_err-other-in-Check.result ≡ Err e = search rules in
    rw passed (imbalance_stops maybe_view value_view c.args.p.now env c.args.node.now x.a x.imbalance x.spec d e x.is
    (subst (λ n. Gives c.args.p.now env (node_tree n) d) c.deref-in-Check.ensures c.in_ok-tested-in-Check.ensures)
    c.in_err-other-in-Check.ensures)

pub evaluate-returns-in-Filter : goal.evaluate-returns-in-Filter
evaluate-returns-in-Filter t c =
    let p = c.args.p.now in
    let env = c.args.known.now.entries in
    let x = c.in-Filter in
    let s = c.args.node.now.structure in
    filter_gives value_view p env c.args.node.now x.a x.c c.evaluate_filter.result x.is
    (subst (λ n. AnswersBy value_view c.evaluate_filter.result (with_structure s (after (node_value p env (node_tree n)) (filter_of p (comp_exp_of x.c))))) c.deref.ensures c.evaluate_filter.ensures)

pub evaluate_filter-filter_join-requires-clause-named : goal.evaluate_filter-filter_join-requires-clause-named
evaluate_filter-filter_join-requires-clause-named t c =
    let env = c.args.known.now.entries in
    let os = c.in-Join.operands in
    let sets = c.in_ok-sets-in-Join.sets in
    ap length c.deref-in-Join.ensures.value
    ∙ sym (length-map sets.items value_view)
    ∙ operands_named c.args.p.now env (map operand_tree os.items) (values_view sets)
    (subst (λ xs. operands_value c.args.p.now env (operands_of (map operand_tree xs)) ≡ Ok (values_view sets)) c.deref.ensures.value c.in_ok-sets-in-Join.ensures)
    ∙ length-map os.items operand_tree
    ∙ sym (ap length c.deref-in-Join-2.ensures.value)

pub evaluate_filter-filter_join-requires-clause-joined : goal.evaluate_filter-filter_join-requires-clause-joined
evaluate_filter-filter_join-requires-clause-joined t c =
    let env = c.args.known.now.entries in
    let os = c.in-Join.operands in
    let sets = c.in_ok-sets-in-Join.sets in
    subst (λ xs. IsJoined c.in-Join.spec.kind (structures_of (map value_view xs)) c.args.a.now.structure) (sym c.deref-in-Join.ensures.value)
    (join_fits c.args.p.now env c.args.a.now os c.in-Join.spec (values_view sets) c.in-Join.is c.requires.made
    (subst (λ xs. operands_value c.args.p.now env (operands_of (map operand_tree xs)) ≡ Ok (values_view sets)) c.deref.ensures.value c.in_ok-sets-in-Join.ensures))

pub evaluate_filter-filter_join-requires-clause-from : goal.evaluate_filter-filter_join-requires-clause-from
evaluate_filter-filter_join-requires-clause-from t c =
    let env = c.args.known.now.entries in
    let os = c.in-Join.operands in
    let sets = c.in_ok-sets-in-Join.sets in
    subst (λ xs. IsJoinedFrom c.in-Join.spec.kind (under_aliases (map (λ o. o.alias) c.deref-in-Join-2.result.now) (structures_of (map value_view xs))) c.args.a.now.structure) (sym c.deref-in-Join.ensures.value)
    (subst (λ (xs : List JoinOperand). IsJoinedFrom c.in-Join.spec.kind (under_aliases (map (λ o. o.alias) xs) (structures_of (values_view sets))) c.args.a.now.structure) (sym c.deref-in-Join-2.ensures.value)
    (join_named c.args.p.now env c.args.a.now os c.in-Join.spec (values_view sets) c.in-Join.is c.requires.made
    (subst (λ xs. operands_value c.args.p.now env (operands_of (map operand_tree xs)) ≡ Ok (values_view sets)) c.deref.ensures.value c.in_ok-sets-in-Join.ensures)))

pub evaluate_filter-filter_join-requires-clause-filtered : goal.evaluate_filter-filter_join-requires-clause-filtered
evaluate_filter-filter_join-requires-clause-filtered t c =
    subst (λ (s : Structure). IsFiltered c.args.p.now (comp_exp_of c.args.condition.now) s c.args.made.now) (structure-there c.args.a.now) c.requires.filtered

pub evaluate_filter-returns-in_ok-sets-in-Join : goal.evaluate_filter-returns-in_ok-sets-in-Join
evaluate_filter-returns-in_ok-sets-in-Join t c =
    let p = c.args.p.now in
    let env = c.args.known.now.entries in
    let os = c.in-Join.operands in
    let e = comp_exp_of c.args.condition.now in
    let s = c.args.made.now in
    let sets = c.in_ok-sets-in-Join.sets in
    filter_joined p env c.args.a.now os c.in-Join.spec c.in-Join.is e s value_view (values_view sets) c.filter_join.result
    (subst (λ xs. operands_value p env (operands_of (map operand_tree xs)) ≡ Ok (values_view sets)) c.deref.ensures.value c.in_ok-sets-in-Join.ensures)
    (subst (λ xs. AnswersBy value_view c.filter_join.result (with_structure s (filter_of p e (join_of c.in-Join.spec.kind (map value_view xs))))) c.deref-in-Join.ensures.value c.filter_join.ensures)

pub evaluate_filter-returns-in_err-sets-in-Join : goal.evaluate_filter-returns-in_err-sets-in-Join
evaluate_filter-returns-in_err-sets-in-Join t c =
    let p = c.args.p.now in
    let env = c.args.known.now.entries in
    let os = c.in-Join.operands in
    let f = c.in_err-sets-in-Join.field-0.0 in
    let passed : c.from_residual.result ≡ Err f = search rules in
    rw passed (filter_operands_stop p env c.args.a.now os c.in-Join.spec c.in-Join.is (comp_exp_of c.args.condition.now) c.args.made.now values_view value_view f
    (subst (λ xs. AnswersBy values_view (Err f) (operands_value p env (operands_of (map operand_tree xs)))) c.deref.ensures.value c.in_err-sets-in-Join.ensures))

pub evaluate_filter-filter-requires : goal.evaluate_filter-filter-requires
evaluate_filter-filter-requires t c =
    subst (λ (s : Structure). IsFiltered c.args.p.now (comp_exp_of c.args.condition.now) s c.args.made.now) (sym c.in_ok-set-in_default.ensures.structure) c.requires.filtered

pub evaluate_filter-returns-in_ok-set-in_default : goal.evaluate_filter-returns-in_ok-set-in_default
evaluate_filter-returns-in_ok-set-in_default t c =
    filter_after c.args.p.now c.args.known.now.entries (node_tree c.args.a.now) (comp_exp_of c.args.condition.now) c.args.made.now value_view (value_view c.in_ok-set-in_default.set) c.filter.result c.in_ok-set-in_default.ensures c.filter.ensures

pub evaluate_filter-returns-in_err-set-in_default : goal.evaluate_filter-returns-in_err-set-in_default
evaluate_filter-returns-in_err-set-in_default t c =
    let f = c.in_err-set-in_default.field-0.0 in
    let passed : c.from_residual-in_err-set-in_default.result ≡ Err f = search rules in
    rw passed (filter_stops c.args.p.now c.args.known.now.entries (node_tree c.args.a.now) (comp_exp_of c.args.condition.now) c.args.made.now value_view value_view f c.in_err-set-in_default.ensures)
