use Rattle.vtl_meaning.proofs.SetsKept.{difference_kept, existence_kept, intersection_kept, symmetric_difference_kept, union_kept}
use Rattle.vtl_meaning.proofs.set_laws.set_operators_keep_data_sets.Goals as goal

pub returns-clause-union : goal.returns-clause-union
returns-clause-union c = union_kept

pub returns-clause-intersection : goal.returns-clause-intersection
returns-clause-intersection c = intersection_kept

pub returns-clause-difference : goal.returns-clause-difference
returns-clause-difference c = difference_kept

pub returns-clause-symmetric_difference : goal.returns-clause-symmetric_difference
returns-clause-symmetric_difference c = symmetric_difference_kept

pub returns-clause-existence : goal.returns-clause-existence
returns-clause-existence c = existence_kept
