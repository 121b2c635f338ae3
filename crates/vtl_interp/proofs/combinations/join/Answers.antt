use Rattle.std.proofs.Common.{◌≡◌, ℕ, List, map, ◌∙◌, ap, subst, sym}
use Rattle.vtl_tree.specs.Environment.{DataSet}
use Rattle.vtl_tree.specs.declared.joins.Operand as joins
use Rattle.vtl_join.specs.Joining.{sets_of, typed_operands}
use Rattle.vtl_meaning.specs.Joined.{structures_of}
use Rattle.vtl_meaning.specs.Made.{IsJoined}
use Rattle.vtl_meaning.specs.Shapes.{IsJoinedFrom}
use Rattle.vtl_interp.specs.Values.{under_aliases, value_view}
use Rattle.vtl_interp.proofs.Evaluates.{under_set_aliases}
use Rattle.vtl_interp.proofs.combinations.join.Goals as goal

pub close-requires-clause-made : goal.close-requires-clause-made
close-requires-clause-made c =
    subst (λ (ds : List DataSet). IsJoined c.args.kind (structures_of ds) c.args.made.now) (sym c.in_ok-joined.ensures.operands) c.requires.joined

pub close-requires-clause-named : goal.close-requires-clause-named
close-requires-clause-named c =
    let os = c.in_ok-joined.joined.operands in
    let aliases = map (λ o. o.alias) c.args.operands.now in
    let sets = map value_view c.args.values.now in
    let same : under_aliases aliases (structures_of sets) ≡ typed_operands os =
    ap (λ (ds : List DataSet). under_aliases aliases (structures_of ds)) (sym c.in_ok-joined.ensures.operands)
    ∙ ap (λ (names : List (List ℕ)). under_aliases names (structures_of (sets_of os))) (sym c.in_ok-joined.ensures.aliases)
    ∙ sym (under_set_aliases os) in
    subst (λ (xs : List joins.Operand). IsJoinedFrom c.args.kind xs c.args.made.now) same c.requires.from
