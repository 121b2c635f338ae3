use Rattle.std.proofs.Common.{ap, map, ◌∙◌}
use Rattle.vtl_tree.specs.View.{comp_exp_of}
use Rattle.vtl_cell.specs.OperatorKinds.{counted_kinds}
use Rattle.check_operators.specs.Operators.{between_kinds, given_by}
use Rattle.check_operators.proofs.OperatorLemmas.{given_by_kinds}
use Rattle.check_operators.proofs.operators.measures_structure.Goals as goal

pub returns : goal.returns
returns c =
    let o = c.args.op in
    let front = c.in_ok-before.before.items in
    let back = c.in_ok-after.after.items in
    let counted = c.in_ok-counted.counted.items in
    let is_counted = c.in_ok-counted.ensures ∙ ap (counted_kinds o) c.deref.ensures.value in
    let is_by = c.in_ok-by_operands.ensures ∙ ap (λ f. between_kinds o f c.deref-3.result.now) c.deref-2.ensures.value ∙ ap (between_kinds o front) c.deref-3.ensures.value in
    let is_given = c.in_ok-given.ensures ∙ ap (λ f. between_kinds o f c.deref-5.result.now) c.deref-4.ensures.value ∙ ap (between_kinds o front) c.deref-5.ensures.value in
    given_by_kinds o c.args.literals (map comp_exp_of c.args.before.now) (map comp_exp_of c.args.after.now) c.args.structure.now.components
    c.outcome_of.result front back counted (given_by c.in_ok-by_operands.by_operands) (given_by c.in_ok-given.given) c.structure_by.result
    c.outcome_of.ensures c.in_ok-before.ensures c.in_ok-after.ensures is_counted is_by is_given c.structure_by.ensures
