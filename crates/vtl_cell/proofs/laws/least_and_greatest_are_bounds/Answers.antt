use Rattle.vtl_cell.proofs.Extremes.{least_member, least_bound, greatest_member, greatest_bound}
use Rattle.vtl_cell.proofs.laws.least_and_greatest_are_bounds.Goals as goal

pub returns-clause-least_is_one : goal.returns-clause-least_is_one
returns-clause-least_is_one c = least_member

pub returns-clause-none_is_less : goal.returns-clause-none_is_less
returns-clause-none_is_less c = least_bound

pub returns-clause-greatest_is_one : goal.returns-clause-greatest_is_one
returns-clause-greatest_is_one c = greatest_member

pub returns-clause-none_is_greater : goal.returns-clause-none_is_greater
returns-clause-none_is_greater c = greatest_bound
