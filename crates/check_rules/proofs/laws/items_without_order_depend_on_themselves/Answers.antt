use Rattle.check_rules.proofs.Circles.{circular_is_stuck, stuck_is_circular}
use Rattle.check_rules.proofs.laws.items_without_order_depend_on_themselves.Goals as goal

pub returns-clause-stuck : goal.returns-clause-stuck
returns-clause-stuck c = λ rules e. stuck_is_circular rules e

pub returns-clause-circular : goal.returns-clause-circular
returns-clause-circular c = λ rules item d. circular_is_stuck rules item d
