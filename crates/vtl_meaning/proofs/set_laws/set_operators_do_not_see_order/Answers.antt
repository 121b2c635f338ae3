use Rattle.vtl_meaning.proofs.SetsOrders.{difference_order, existence_order, intersection_order, symmetric_difference_order, union_order}
use Rattle.vtl_meaning.proofs.set_laws.set_operators_do_not_see_order.Goals as goal

pub returns-clause-union : goal.returns-clause-union
returns-clause-union c = union_order

pub returns-clause-intersection : goal.returns-clause-intersection
returns-clause-intersection c = intersection_order

pub returns-clause-difference : goal.returns-clause-difference
returns-clause-difference c = λ a b s d t e f i h k p q. difference_order a b s d t e f p q i h k

pub returns-clause-symmetric_difference : goal.returns-clause-symmetric_difference
returns-clause-symmetric_difference c = λ a b s d t e f i h k p q. symmetric_difference_order a b s d t e f p q i h k

pub returns-clause-existence : goal.returns-clause-existence
returns-clause-existence c = existence_order
