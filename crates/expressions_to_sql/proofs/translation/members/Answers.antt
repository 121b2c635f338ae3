use Rattle.std.proofs.Common.{subst}
use Rattle.std.proofs.lemmas.List.{take_all}
use Rattle.expressions_to_sql.proofs.MadeParts.{AreMade, IsMember, made_more, members_made}
use Rattle.expressions_to_sql.proofs.translation.members.Goals as goal

pub loop-e-preserved : goal.loop-e-preserved
loop-e-preserved c =
    rw c.in_ok-push.ensures.items
    (made_more (IsMember c.args.p.now) c.args.exps.now c.loop-e.e-index c.e-item.result c.loop-e.literals.items c.in_ok-member.field-0 c.loop-e-test.true c.e-item.is c.loop-e.invariant
    (c.in_ok-member.ensures.literal, c.in_ok-member.ensures.held))

pub returns-clause-literals : goal.returns-clause-literals
returns-clause-literals c =
    let made = subst (λ es. AreMade (IsMember c.args.p.now) es c.loop-e.literals.items) (take_all c.loop-e.e-index c.args.exps.now c.loop-e-test.false) c.loop-e.invariant in
    (members_made c.args.p.now c.args.exps.now c.loop-e.literals.items made).0

pub returns-clause-held : goal.returns-clause-held
returns-clause-held c =
    let made = subst (λ es. AreMade (IsMember c.args.p.now) es c.loop-e.literals.items) (take_all c.loop-e.e-index c.args.exps.now c.loop-e-test.false) c.loop-e.invariant in
    (members_made c.args.p.now c.args.exps.now c.loop-e.literals.items made).1
