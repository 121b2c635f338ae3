use Rattle.vtl_rulings.proofs.Orders.{check_respects, datapoint_respects, imbalanced_respects}
use Rattle.vtl_rulings.proofs.laws.checks_do_not_see_order.Goals as goal

pub returns-clause-datapoint : goal.returns-clause-datapoint
returns-clause-datapoint c = datapoint_respects

pub returns-clause-check : goal.returns-clause-check
returns-clause-check c = check_respects

pub returns-clause-imbalance : goal.returns-clause-imbalance
returns-clause-imbalance c = λ p spec a b s d t e f i h same turned. imbalanced_respects p spec a b s e f i h turned d t same
