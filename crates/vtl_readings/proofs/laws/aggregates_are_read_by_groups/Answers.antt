use Rattle.vtl_readings.proofs.Groups.{by_groups}
use Rattle.vtl_readings.proofs.laws.aggregates_are_read_by_groups.Goals as goal

pub returns : goal.returns
returns c = by_groups
