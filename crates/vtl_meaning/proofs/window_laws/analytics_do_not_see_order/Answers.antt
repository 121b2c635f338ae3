use Rattle.vtl_meaning.proofs.AnalyticOrders.{analytics_respect}
use Rattle.vtl_meaning.proofs.window_laws.analytics_do_not_see_order.Goals as goal

pub returns : goal.returns
returns c = analytics_respect
