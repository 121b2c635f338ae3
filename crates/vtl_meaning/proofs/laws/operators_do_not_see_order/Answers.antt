use Rattle.vtl_tree.specs.Structure.{columns_of}
use Rattle.vtl_meaning.specs.Operators.{calculated_exps, measured_exps}
use Rattle.vtl_meaning.proofs.Orders.{choice_respects, each_respects, pair_respects, shown_respects, sub_respects}
use Rattle.vtl_meaning.proofs.laws.operators_do_not_see_order.Goals as goal

pub returns-clause-measures : goal.returns-clause-measures
returns-clause-measures c = λ p m a s d e q. each_respects p (measured_exps m a s) d e q

pub returns-clause-pair : goal.returns-clause-pair
returns-clause-pair c = λ p o a b s d t e f h k q u. pair_respects p o a b s d t e f q u h.distinct k.distinct

pub returns-clause-choice : goal.returns-clause-choice
returns-clause-choice c = λ t a b s tests other d e f g h k q u v. choice_respects t a b s tests other d e f g q u v h.distinct k.distinct

pub returns-clause-calc : goal.returns-clause-calc
returns-clause-calc c = λ p items a s d e q. each_respects p (calculated_exps items a s) d e q

pub returns-clause-left : goal.returns-clause-left
returns-clause-left c = λ a s d e q. shown_respects (columns_of a) (columns_of s) d e q

pub returns-clause-sub : goal.returns-clause-sub
returns-clause-sub c = sub_respects
