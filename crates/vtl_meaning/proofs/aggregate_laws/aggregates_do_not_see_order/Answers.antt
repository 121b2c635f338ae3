use Rattle.vtl_meaning.proofs.GroupOrders.{aggregates_respect}
use Rattle.vtl_meaning.proofs.aggregate_laws.aggregates_do_not_see_order.Goals as goal

pub returns : goal.returns
returns c = aggregates_respect
