use Rattle.vtl_aggregate_laws.proofs.ByIdentifiers.{greatest_by_identifiers, least_by_identifiers, sum_by_identifiers}
use Rattle.vtl_aggregate_laws.proofs.laws.aggregates_by_all_identifiers_keep_points.Goals as goal

pub returns-clause-least : goal.returns-clause-least
returns-clause-least c = least_by_identifiers

pub returns-clause-greatest : goal.returns-clause-greatest
returns-clause-greatest c = greatest_by_identifiers

pub returns-clause-sum : goal.returns-clause-sum
returns-clause-sum c = sum_by_identifiers
