use Rattle.vtl_readings.proofs.Expressions.{given_is, points_are}
use Rattle.vtl_readings.proofs.laws.expressions_are_read_by_operands.Goals as goal

pub returns-clause-points : goal.returns-clause-points
returns-clause-points c = points_are

pub returns-clause-data_set : goal.returns-clause-data_set
returns-clause-data_set c = given_is
