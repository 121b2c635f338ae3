use Rattle.vtl_meaning_laws.proofs.Existence.{absent_is_difference, parts_are_all, there_is_intersection}
use Rattle.vtl_meaning_laws.proofs.sets.existence_is_intersection_or_difference.Goals as goal

pub returns-clause-there : goal.returns-clause-there
returns-clause-there c = there_is_intersection

pub returns-clause-absent : goal.returns-clause-absent
returns-clause-absent c = absent_is_difference

pub returns-clause-parts : goal.returns-clause-parts
returns-clause-parts c = parts_are_all
