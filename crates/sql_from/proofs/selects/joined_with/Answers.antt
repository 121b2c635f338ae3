use Rattle.sql_from.proofs.Links.{nothing_there}
use Rattle.sql_from.proofs.selects.joined_with.Goals as goal

-- what links two sources is found by ON
pub returns-in_err-found-2-clause-steps : goal.returns-in_err-found-2-clause-steps
returns-in_err-found-2-clause-steps g c by silent lead linked = absurd (nothing_there c.in_ok-found.found c.in_default.is (c.in_ok-found.ensures.some by lead linked))

pub returns-in-Some-found-clause-steps : goal.returns-in-Some-found-clause-steps
returns-in-Some-found-clause-steps g c by silent lead linked = absurd (nothing_there c.in_ok-found.found c.in_default.is (c.in_ok-found.ensures.some by lead linked))

pub returns-clause-steps : goal.returns-clause-steps
returns-clause-steps g c by silent lead linked = absurd (nothing_there c.in_ok-found.found c.in_default.is (c.in_ok-found.ensures.some by lead linked))
