use Rattle.vtl_meaning_laws.proofs.Combined.{own_points}
use Rattle.vtl_meaning_laws.proofs.Twice.{difference_twice, intersection_twice, symmetric_difference_twice, union_twice}
use Rattle.vtl_meaning_laws.proofs.sets.sets_with_themselves.Goals as goal

pub returns-clause-union : goal.returns-clause-union
returns-clause-union c = union_twice

pub returns-clause-intersection : goal.returns-clause-intersection
returns-clause-intersection c = intersection_twice

pub returns-clause-difference : goal.returns-clause-difference
returns-clause-difference c = difference_twice

pub returns-clause-symmetric_difference : goal.returns-clause-symmetric_difference
returns-clause-symmetric_difference c = symmetric_difference_twice

pub returns-clause-plain : goal.returns-clause-plain
returns-clause-plain c = λ d s h e. own_points d.structure s d.points h e
