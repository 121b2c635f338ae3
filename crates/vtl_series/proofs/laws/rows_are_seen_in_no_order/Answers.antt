use Rattle.vtl_series.proofs.OrderLemmas.{in_no_order}
use Rattle.vtl_series.proofs.laws.rows_are_seen_in_no_order.Goals as goal

pub returns : goal.returns
returns c = λ e on by rows others p. in_no_order e on by p
