use Rattle.vtl_meaning.proofs.JoinOrders.{join_order}
use Rattle.vtl_meaning.proofs.join_laws.joins_do_not_see_order.Goals as goal

pub returns : goal.returns
returns c = join_order
