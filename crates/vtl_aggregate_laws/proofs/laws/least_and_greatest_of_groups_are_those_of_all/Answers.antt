use Rattle.vtl_aggregate_laws.proofs.Firsts.{greatest_is_greatest, least_is_least}
use Rattle.vtl_aggregate_laws.proofs.laws.least_and_greatest_of_groups_are_those_of_all.Goals as goal

pub returns-clause-least : goal.returns-clause-least
returns-clause-least c = least_is_least

pub returns-clause-greatest : goal.returns-clause-greatest
returns-clause-greatest c = greatest_is_greatest
