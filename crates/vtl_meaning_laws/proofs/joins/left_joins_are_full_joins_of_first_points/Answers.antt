use Rattle.vtl_meaning_laws.proofs.JoinTuples.{left_is_part}
use Rattle.vtl_meaning_laws.proofs.joins.left_joins_are_full_joins_of_first_points.Goals as goal

pub returns : goal.returns
returns c = left_is_part
