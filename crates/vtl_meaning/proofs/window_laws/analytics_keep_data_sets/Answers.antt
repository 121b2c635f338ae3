use Rattle.vtl_meaning.proofs.AnalyticPoints.{result_is, result_is_proper}
use Rattle.vtl_meaning.proofs.window_laws.analytics_keep_data_sets.Goals as goal

pub returns-clause-kept : goal.returns-clause-kept
returns-clause-kept c = result_is

pub returns-clause-profile : goal.returns-clause-profile
returns-clause-profile c = result_is_proper
