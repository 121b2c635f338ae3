use Rattle.vtl_rulings.proofs.HierarchyOrders.{all_respect, check_respects, hierarchy_respects}
use Rattle.vtl_rulings.proofs.laws.hierarchies_do_not_see_order.Goals as goal

pub returns-clause-check : goal.returns-clause-check
returns-clause-check c = λ p o h m rules a d e set same. check_respects h a d e set same p m o rules

pub returns-clause-computed : goal.returns-clause-computed
returns-clause-computed c = λ p h m i rules a s d e set same. hierarchy_respects h a d e set same p m i rules s

pub returns-clause-all : goal.returns-clause-all
returns-clause-all c = λ p h m i rules a s d e is set same. all_respect h a d e set same p m i rules s is
