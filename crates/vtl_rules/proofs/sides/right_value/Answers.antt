use Rattle.std.proofs.Common.{rules, ◌<◌, ◌≤◌, ◌∷◌, [], ◌∙◌, length, map, min, Ok, ap, sym, arith}
use Rattle.vtl_cell.specs.Outcome.{Outcome}
use Rattle.vtl_cell.specs.Outcomes.{result_of}
use Rattle.vtl_cell.specs.declared.cell.Cell.{Cell}
use Rattle.vtl_scalar.specs.Answers.{Answers}
use Rattle.vtl_syntax.specs.declared.parts.SignedComp.{SignedComp}
use Rattle.vtl_rulings.specs.Modes.{counted}
use Rattle.vtl_rulings.specs.Sides.{first_value, next_values, sign_op}
use Rattle.vtl_rules.specs.SideValues.{right_value}
use Rattle.vtl_rules.proofs.SumLemmas.{ended, faulted, passed_on, total_fails}
use Rattle.vtl_rules.proofs.sides.right_value.Goals as goal

pub returns-in_err-total : goal.returns-in_err-total
returns-in_err-total c =
    let p = c.args.p.now in
    let m = c.args.mode in
    let kind = c.args.kind in
    let r = c.args.rule.now in
    let rest = c.in-Some.rest.now in
    let told : Answers c.from_residual-in_err-total.result (first_value p kind r.sign c.in_ok-counted.field-0) = search rules in
    passed_on c.from_residual-in_err-total.result c.from_residual-in_err-total.ensures.0 (first_value p kind r.sign c.in_ok-counted.field-0) (right_value p m kind r c.args.right.now)
    (λ f e. ap (right_value p m kind r) c.in-Some.ensures.cases.0 ∙ ap (λ v. next_values p kind (first_value p kind r.sign v) r.others (map (counted m kind) rest)) (sym c.in_ok-counted.ensures)
    ∙ ap (λ (o : Outcome Cell). next_values p kind o r.others (map (counted m kind) rest)) e ∙ faulted p m kind f r.others (map (counted m kind) rest)) told

pub returns-in_err-total-2 : goal.returns-in_err-total-2
returns-in_err-total-2 c =
    let p = c.args.p.now in
    let m = c.args.mode in
    let kind = c.args.kind in
    let r = c.args.rule.now in
    let others = c.as_slice-others.result.now in
    let rest = c.in-Some.rest.now in
    let t = c.loop-i.total in
    let i = c.loop-i.i in
    let v = c.in_ok-value.value in
    let told : Answers c.from_residual-in_err-total-2.result (result_of p c.sign_op.result kind (t ∷ v ∷ [])) = search rules in
    let within : i < length others = omega (arith, c.loop-i-test.true, c.min-i-end.ensures) in
    let inside : i < length rest = omega (arith, c.loop-i-test.true, c.min-i-end.ensures) in
    passed_on c.from_residual-in_err-total-2.result c.from_residual-in_err-total-2.ensures.0 (result_of p c.sign_op.result kind (t ∷ v ∷ [])) (right_value p m kind r c.args.right.now)
    (λ f e. total_fails p m kind t i others rest c.index-others-i.result c.index-rest-i.result (right_value p m kind r c.args.right.now) within inside c.index-others-i.is c.index-rest-i.is c.loop-i.invariant f
    (ap (λ o. result_of p o kind (t ∷ counted m kind c.index-rest-i.result ∷ [])) (sym (c.sign_op.ensures ∙ ap (λ (z : SignedComp). sign_op z.sign) (sym c.index-others-i.is))) ∙ ap (λ (u : Cell). result_of p c.sign_op.result kind (t ∷ u ∷ [])) (sym c.in_ok-value.ensures) ∙ e)) told

pub returns : goal.returns
returns c =
    let others = c.as_slice-others.result.now in
    let rest = c.in-Some.rest.now in
    let past : min (length others) (length rest) ≤ c.loop-i.i = omega (arith, c.loop-i-test.false, c.min-i-end.ensures) in
    sym c.loop-i.invariant ∙ ended c.args.p.now c.args.mode c.args.kind (Ok c.loop-i.total) c.loop-i.i others rest past
