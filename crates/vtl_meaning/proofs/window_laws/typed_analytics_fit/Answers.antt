use Rattle.vtl_meaning.proofs.AnalyticShaped.{fits}
use Rattle.vtl_meaning.proofs.window_laws.typed_analytics_fit.Goals as goal

pub returns : goal.returns
returns c = fits
