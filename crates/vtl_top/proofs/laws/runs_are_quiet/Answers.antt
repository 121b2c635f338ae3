use Rattle.vtl_top.proofs.SinkLemmas.{engine_is_quiet, run_is_quiet}
use Rattle.vtl_top.proofs.laws.runs_are_quiet.Goals as goal

pub returns-clause-runs : goal.returns-clause-runs
returns-clause-runs g c = run_is_quiet g.F.Files g.O.Sink

pub returns-clause-engines : goal.returns-clause-engines
returns-clause-engines g c = engine_is_quiet g.F.Files g.O.Sink
