use Rattle.std.proofs.Common.{rules, ◌≡◌, ◌∙◌, ap, map, true}
use Rattle.vtl_tree.specs.View.{comp_exp_of}
use Rattle.vtl_cell.specs.OperatorKinds.{takes_literals}
use Rattle.check_operators.specs.Operators.{beside_literal, meets_first}
use Rattle.check_operators.specs.Typed.{boxed_tree}
use Rattle.check_operators.proofs.OperatorLemmas.{fits_first}
use Rattle.check_operators.proofs.operators.first_fits.Goals as goal

pub returns : goal.returns
returns c =
    let takes : takes_literals c.args.op ≡ true = search (rules, c.takes_literals.ensures, c.if-not-takes_literals.false) in
    c.meets_first.ensures
    ∙ ap (λ f. meets_first f (map comp_exp_of c.deref.result.now) (map boxed_tree c.deref-2.result.now)) c.in_ok-given.ensures
    ∙ ap (λ l. meets_first (beside_literal c.args.op) (map comp_exp_of l) (map boxed_tree c.deref-2.result.now)) c.deref.ensures.value
    ∙ ap (λ l. meets_first (beside_literal c.args.op) (map comp_exp_of c.args.operands.now.before.items) (map boxed_tree l)) c.deref-2.ensures.value
    ∙ fits_first c.args.op (map comp_exp_of c.args.operands.now.before.items) (map boxed_tree c.args.operands.now.datasets.items) takes
