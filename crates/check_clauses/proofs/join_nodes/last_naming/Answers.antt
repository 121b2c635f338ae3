use Rattle.std.proofs.Common.{◌≡◌, ◌∙◌, ap, sym, subst}
use Rattle.check_faults.specs.Answers.{Answers}
use Rattle.check_operators.specs.Typed.{boxed_tree, components_in}
use Rattle.check_clauses.specs.Clauses.{renamed_of}
use Rattle.check_clauses.specs.JoinOperands.{last_naming, left_names}
use Rattle.check_clauses.proofs.ClauseErrors.{components-there}
use Rattle.check_clauses.proofs.join_nodes.last_naming.Goals as goal

pub returns : goal.returns
unfolding last_naming
returns c =
    let components : c.as_slice.result.now ≡ components_in (boxed_tree c.args.operand) = c.as_slice.ensures ∙ ap (λ n. n.structure.components) c.deref.ensures ∙ sym (components-there c.args.operand) in
    let names : c.in_ok-renamings.renamings.items ≡ left_names c.args.joined.now (components_in (boxed_tree c.args.operand)) = c.in_ok-renamings.ensures ∙ ap (left_names c.args.joined.now) components in
    subst (λ rs. Answers boxed_tree c.renamed.result (renamed_of (boxed_tree c.args.operand) rs)) names c.renamed.ensures
