use Rattle.vtl_meaning_laws.proofs.FallingOrders.{from_its_end}
use Rattle.vtl_meaning_laws.proofs.windows.falling_orders_are_rising_ones_from_their_end.Goals as goal

pub returns : goal.returns
returns c = from_its_end
