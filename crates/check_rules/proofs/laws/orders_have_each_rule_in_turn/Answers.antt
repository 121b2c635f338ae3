use Rattle.check_rules.proofs.InOrder.{order_is}
use Rattle.check_rules.proofs.laws.orders_have_each_rule_in_turn.Goals as goal

pub returns : goal.returns
returns c = λ rules order e. order_is rules order e
