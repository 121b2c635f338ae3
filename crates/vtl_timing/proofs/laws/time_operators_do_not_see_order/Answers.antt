use Rattle.vtl_timing.proofs.Timed.{timed_respects}
use Rattle.vtl_timing.proofs.laws.time_operators_do_not_see_order.Goals as goal

pub returns : goal.returns
returns c = timed_respects
