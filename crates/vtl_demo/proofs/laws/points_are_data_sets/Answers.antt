use Rattle.vtl_demo.proofs.Points.{left_is, left_ranged, right_is, right_ranged}
use Rattle.vtl_demo.proofs.laws.points_are_data_sets.Goals as goal

pub returns-clause-left : goal.returns-clause-left
returns-clause-left c = left_is

pub returns-clause-right : goal.returns-clause-right
returns-clause-right c = right_is

pub returns-clause-left_ranges : goal.returns-clause-left_ranges
returns-clause-left_ranges c = left_ranged

pub returns-clause-right_ranges : goal.returns-clause-right_ranges
returns-clause-right_ranges c = right_ranged
