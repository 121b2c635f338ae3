use Rattle.vtl_meaning.proofs.AggregateShaped.{fits}
use Rattle.vtl_meaning.proofs.aggregate_laws.typed_aggregates_fit.Goals as goal

pub returns : goal.returns
returns c = fits
