use Rattle.vtl_meaning.proofs.AnalyticLooks.{looked}
use Rattle.vtl_meaning.proofs.window_laws.analytics_by_look_up.Goals as goal

pub returns : goal.returns
returns c = looked
