use Rattle.vtl_aggregate_laws.proofs.Pieces.{parts}
use Rattle.vtl_aggregate_laws.proofs.laws.groups_part_the_points.Goals as goal

pub returns : goal.returns
returns c = parts
