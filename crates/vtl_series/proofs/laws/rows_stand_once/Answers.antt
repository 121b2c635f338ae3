use Rattle.vtl_series.proofs.OrderLemmas.{once}
use Rattle.vtl_series.proofs.laws.rows_stand_once.Goals as goal

pub returns : goal.returns
returns c = once
