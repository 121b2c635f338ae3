use Rattle.std.proofs.Common.{◌∙◌, arith, sym}
use Rattle.sql_from.proofs.Links.{found_other, linked_some, one_linked}
use Rattle.sql_from.proofs.key_lookup.first_lead.Goals as goal

pub returns-in-Some-clause-is : goal.returns-in-Some-clause-is
returns-in-Some-clause-is c lead linked =
    sym c.in-Some.is ∙ c.lead_of.ensures.is lead (one_linked c.args.sources.now lead c.args.conditions.now c.loop-condition.condition-index c.condition-item.result c.loop-condition-test.true c.condition-item.is linked)

-- the first of one is asked alone
pub loop-condition-preserved : goal.loop-condition-preserved
loop-condition-preserved c lead linked =
    absurd (found_other c.lead_of.result lead (c.lead_of.ensures.is lead (one_linked c.args.sources.now lead c.args.conditions.now c.loop-condition.condition-index c.condition-item.result c.loop-condition-test.true c.condition-item.is linked)) c.in_default.is)

pub returns-clause-is : goal.returns-clause-is
returns-clause-is c lead linked =
    let some = linked_some c.args.sources.now lead c.args.conditions.now linked in
    let none = c.loop-condition.invariant lead linked in
    absurd (omega (arith, some, none, c.loop-condition-test.false))
