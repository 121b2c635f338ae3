use Rattle.vtl_meaning.proofs.SetsFolds.{intersected_fold, intersection_more}
use Rattle.vtl_meaning.proofs.set_laws.intersections_are_folds.Goals as goal

pub returns-clause-lists : goal.returns-clause-lists
returns-clause-lists c = intersected_fold

pub returns-clause-sets : goal.returns-clause-sets
returns-clause-sets c = intersection_more
