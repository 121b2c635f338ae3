use Rattle.std.proofs.Common.{◌≡◌, true}
use Rattle.vtl_tuples.proofs.Leads.{lead_of_matching, led_is}
use Rattle.vtl_tuples.proofs.laws.lead_stands_anywhere.Goals as goal

pub returns-clause-each : goal.returns-clause-each
returns-clause-each g c = λ agree pre lead post. lead_of_matching agree pre lead post

pub returns-clause-finds : goal.returns-clause-finds
returns-clause-finds g c = λ of agree items find pre lead post before behind found. led_is (λ x. of x ≡ true) agree items find pre lead post before behind found
