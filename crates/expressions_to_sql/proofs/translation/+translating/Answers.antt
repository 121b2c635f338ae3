use Rattle.std.proofs.Common.{ap, subst, sym, ◌∙◌}
use Rattle.std.proofs.lemmas.List.{take_all}
use Rattle.expressions_to_sql.specs.Aliases.{naming}
use Rattle.sql_tree.specs.Trees as tree
use Rattle.expressions_to_sql.proofs.BracketedCalls.{bracketed, bracketed_hold}
use Rattle.expressions_to_sql.proofs.MadeParts.{AreMade, IsOperand, made_more, operands_made}
use Rattle.expressions_to_sql.proofs.translation.+translating.Goals as goal

pub all-loop-e-preserved : goal.all-loop-e-preserved
all-loop-e-preserved t c =
    rw c.in_ok-push.ensures.items
    (made_more (IsOperand c.args.p.now (naming c.args.at.now)) c.args.exps.now c.loop-e.e-index c.e-item.result c.loop-e.made.items c.in_ok-comp_to_sql.field-0 c.loop-e-test.true c.e-item.is c.loop-e.invariant
    (c.in_ok-comp_to_sql.ensures.exp, c.in_ok-comp_to_sql.ensures.held))

pub all-returns-clause-exps : goal.all-returns-clause-exps
all-returns-clause-exps t c =
    let made = subst (λ es. AreMade (IsOperand c.args.p.now (naming c.args.at.now)) es c.loop-e.made.items) (take_all c.loop-e.e-index c.args.exps.now c.loop-e-test.false) c.loop-e.invariant in
    (operands_made c.args.p.now (naming c.args.at.now) c.args.exps.now c.loop-e.made.items made).0

pub all-returns-clause-held : goal.all-returns-clause-held
all-returns-clause-held t c =
    let made = subst (λ es. AreMade (IsOperand c.args.p.now (naming c.args.at.now)) es c.loop-e.made.items) (take_all c.loop-e.e-index c.args.exps.now c.loop-e-test.false) c.loop-e.invariant in
    (operands_made c.args.p.now (naming c.args.at.now) c.args.exps.now c.loop-e.made.items made).1

pub applied-returns-in_ok-all-in-InBrackets-clause-exp : goal.applied-returns-in_ok-all-in-InBrackets-clause-exp
applied-returns-in_ok-all-in-InBrackets-clause-exp t c =
    c.call.ensures
    ∙ ap (tree.call c.args.op) c.in_ok-all-in-InBrackets.ensures.exps
    ∙ sym (bracketed c.args.p.now (naming c.args.at.now) c.args.op c.args.args.now (sym c.in-InBrackets.ensures.form))

pub applied-returns-in_ok-all-in-InBrackets-clause-held : goal.applied-returns-in_ok-all-in-InBrackets-clause-held
applied-returns-in_ok-all-in-InBrackets-clause-held t c = bracketed_hold c.args.op c.args.args.now (sym c.in-InBrackets.ensures.form) c.in_ok-all-in-InBrackets.ensures.held
