use Rattle.vtl_meaning_laws.proofs.Twice.{parts_of_first}
use Rattle.vtl_meaning_laws.proofs.sets.differences_and_intersections_part_the_whole.Goals as goal

pub returns : goal.returns
returns c = parts_of_first
