use Rattle.std.proofs.Common.{rules, arith, Global, Vec, ◌≡◌, true, false, Some, None, Ok, Err, refl, sym, ap, ◌∙◌}
use Rattle.vtl_cell.specs.Outcomes.{all_of, first_chosen, result_of}
use Rattle.vtl_cell.specs.declared.cell.Cell.{Cell}
use Rattle.vtl_cell.specs.declared.cell.Cell.TheVariants as cell
use Rattle.vtl_tree.specs.Value.{is_choice}
use Rattle.vtl_scalar.specs.Given.{given_cell}
use Rattle.vtl_expr.proofs.PreparedLemmas.{membership_value}
use Rattle.vtl_expr.proofs.Values.{AnswersBy_passed, AnswersBy_same, after_fault, after_value, choice_first, choice_value, no_operands_chosen, of_items, three_value, two_value}
use Rattle.vtl_expr.proofs.evaluation.+evaluation.Goals as goal

pub value_at-returns-in-Membership : goal.value_at-returns-in-Membership
value_at-returns-in-Membership g t c =
    let columns = g.R.Cells.columns c.args.at.now in
    let aggregates = g.R.Cells.aggregates c.args.at.now c.args.p.now in
    AnswersBy_same given_cell _ _ _
    (membership_value c.args.p.now columns aggregates c.args.e.now c.in-Membership.is_in c.in-Membership.operand c.in-Membership.members c.in-Membership.is c.deref-in-Membership.result.now c.deref-in-Membership.ensures)
    (c.asked.ensures _ c.value_at.ensures)

pub called-returns-in-2 : goal.called-returns-in-2
called-returns-in-2 g t c =
    let columns = g.R.Cells.columns c.args.at.now in
    let aggregates = g.R.Cells.aggregates c.args.at.now c.args.p.now in
    AnswersBy_same given_cell _ _ _
    (two_value c.args.p.now columns aggregates c.args.kind c.args.op c.args.args.now c.in-2.is c.index-args-0-in-2.result c.index-args-0-in-2.is c.index-args-1.result c.index-args-1.is)
    (c.value_of_two.ensures _ _ c.value_at-a-in-2.ensures c.value_at-b.ensures)

pub called-returns-in_err-values-in_default : goal.called-returns-in_err-values-in_default
called-returns-in_err-values-in_default g t c =
    let columns = g.R.Cells.columns c.args.at.now in
    let aggregates = g.R.Cells.aggregates c.args.at.now c.args.p.now in
    let p = c.args.p.now in
    let args = c.args.args.now in
    let passed : c.from_residual.result ≡ Err c.in_err-values-in_default.field-0.0 = search rules in
    AnswersBy_passed (λ (v : Vec Cell Global). v.items) given_cell c.in_err-values-in_default.field-0.0 _ _ _ c.in_err-values-in_default.ensures passed
    (λ f e. no_operands_chosen p columns aggregates c.args.kind c.args.op args (λ three. omega (arith, three, c.if-count-eq3.false)) ∙ after_fault (all_of (of_items p columns aggregates args)) (result_of p c.args.op c.args.kind) f e)

pub called-returns-in_ok-values-in_default : goal.called-returns-in_ok-values-in_default
called-returns-in_ok-values-in_default g t c =
    let columns = g.R.Cells.columns c.args.at.now in
    let aggregates = g.R.Cells.aggregates c.args.at.now c.args.p.now in
    let p = c.args.p.now in
    let args = c.args.args.now in
    AnswersBy_same given_cell _ _ _
    (no_operands_chosen p columns aggregates c.args.kind c.args.op args (λ three. omega (arith, three, c.if-count-eq3.false))
    ∙ after_value (all_of (of_items p columns aggregates args)) (result_of p c.args.op c.args.kind) c.in_ok-values-in_default.values.items c.in_ok-values-in_default.ensures
    ∙ ap (result_of p c.args.op c.args.kind) (sym c.deref.ensures.value))
    (c.made_of_kind.ensures _ c.apply.ensures)

pub called_on_three-returns-then-not-is_choice : goal.called_on_three-returns-then-not-is_choice
called_on_three-returns-then-not-is_choice g t c =
    let columns = g.R.Cells.columns c.args.at.now in
    let aggregates = g.R.Cells.aggregates c.args.at.now c.args.p.now in
    let none : is_choice c.args.op 3 ≡ false = sym c.is_choice.ensures ∙ c.if-not-is_choice.true in
    AnswersBy_same given_cell _ _ _
    (three_value c.args.p.now columns aggregates c.args.kind c.args.op c.args.args.now c.requires none c.index-args-0.result c.index-args-0.is c.index-args-1.result c.index-args-1.is c.index-args-2.result c.index-args-2.is)
    (c.value_of_three.ensures _ _ _ c.value_at-a.ensures c.value_at-b.ensures c.value_at-c.ensures)

pub called_on_three-returns-in-Some-true : goal.called_on_three-returns-in-Some-true
called_on_three-returns-in-Some-true g t c =
    let columns = g.R.Cells.columns c.args.at.now in
    let aggregates = g.R.Cells.aggregates c.args.at.now c.args.p.now in
    let choice : is_choice c.args.op 3 ≡ true = sym c.is_choice.ensures ∙ c.if-not-is_choice.false in
    let first : Some true ≡ first_chosen (given_cell c.in_ok-a.field-0) = search rules in
    AnswersBy_same given_cell _ _ _
    (choice_first c.args.p.now columns aggregates c.args.kind c.args.op c.args.args.now c.requires choice c.index-args-0.result c.index-args-0.is (given_cell c.in_ok-a.field-0) c.in_ok-a.ensures first c.index-args-1-in-Some-true.result c.index-args-1-in-Some-true.is)
    (c.given_of_kind.ensures _ c.value_at.ensures)

pub called_on_three-returns : goal.called_on_three-returns
called_on_three-returns g t c =
    let columns = g.R.Cells.columns c.args.at.now in
    let aggregates = g.R.Cells.aggregates c.args.at.now c.args.p.now in
    let choice : is_choice c.args.op 3 ≡ true = sym c.is_choice.ensures ∙ c.if-not-is_choice.false in
    let neither : None ≡ first_chosen (given_cell c.in_ok-a.field-0) = search rules in
    AnswersBy_same given_cell _ _ _
    (choice_value c.args.p.now columns aggregates c.args.kind c.args.op c.args.args.now c.requires choice c.index-args-0.result c.index-args-0.is (given_cell c.in_ok-a.field-0) c.in_ok-a.ensures None neither c.index-args-0.result c.index-args-0.result)
    (c.given_of_kind-in-None.ensures (Ok cell.Null) refl)
