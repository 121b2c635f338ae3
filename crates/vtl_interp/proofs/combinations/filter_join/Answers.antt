use Rattle.std.proofs.Common.{rules, ◌≡◌, ℕ, List, Err, map, ap, subst, sym, ◌∙◌}
use Rattle.vtl_sets.specs.DataSets.{with_structure}
use Rattle.vtl_tree.specs.Clauses.{filter_of}
use Rattle.vtl_tree.specs.Environment.{DataSet}
use Rattle.vtl_tree.specs.View.{comp_exp_of}
use Rattle.vtl_tree.specs.declared.joins.Operand as joins
use Rattle.vtl_expr.proofs.Values.{AnswersBy_passed}
use Rattle.vtl_join.specs.Joining.{sets_of, typed_operands}
use Rattle.vtl_meaning.specs.Joined.{join_of, structures_of}
use Rattle.vtl_meaning.specs.Made.{IsJoined}
use Rattle.vtl_meaning.specs.Shapes.{IsJoinedFrom}
use Rattle.vtl_interp.specs.Values.{under_aliases, value_view}
use Rattle.vtl_interp.proofs.Evaluates.{under_set_aliases}
use Rattle.vtl_interp.proofs.combinations.filter_join.Goals as goal

pub filter_joined-requires-clause-made : goal.filter_joined-requires-clause-made
filter_joined-requires-clause-made c =
    subst (λ (ds : List DataSet). IsJoined c.args.kind (structures_of ds) c.args.made.now) (sym c.in_ok-joined.ensures.operands) c.requires.joined

pub filter_joined-requires-clause-named : goal.filter_joined-requires-clause-named
filter_joined-requires-clause-named c =
    let os = c.in_ok-joined.joined.operands in
    let aliases = map (λ o. o.alias) c.args.operands.now in
    let sets = map value_view c.args.values.now in
    let same : under_aliases aliases (structures_of sets) ≡ typed_operands os =
    ap (λ (ds : List DataSet). under_aliases aliases (structures_of ds)) (sym c.in_ok-joined.ensures.operands)
    ∙ ap (λ (names : List (List ℕ)). under_aliases names (structures_of (sets_of os))) (sym c.in_ok-joined.ensures.aliases)
    ∙ sym (under_set_aliases os) in
    subst (λ (xs : List joins.Operand). IsJoinedFrom c.args.kind xs c.args.made.now) same c.requires.from

pub returns-in_err-set : goal.returns-in_err-set
returns-in_err-set c =
    let e = comp_exp_of c.args.condition.now in
    let passed : c.from_residual-in_err-set.result ≡ Err c.in_err-set.field-0.0 = search rules in
    AnswersBy_passed (λ (d : DataSet). d) value_view c.in_err-set.field-0.0 _ _ _ c.in_err-set.ensures passed
    (λ f h. ap (λ (ds : List DataSet). with_structure c.args.filtered.now (filter_of c.args.p.now e (join_of c.args.kind ds))) (sym c.in_ok-joined.ensures.operands) ∙ h)

pub returns : goal.returns
returns c =
    let e = comp_exp_of c.args.condition.now in
    ap (λ (ds : List DataSet). with_structure c.args.filtered.now (filter_of c.args.p.now e (join_of c.args.kind ds))) (sym c.in_ok-joined.ensures.operands) ∙ c.in_ok-set.ensures
