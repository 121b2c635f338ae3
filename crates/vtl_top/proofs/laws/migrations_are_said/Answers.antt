use Rattle.vtl_top.proofs.SinkLemmas.{migration_is_said}
use Rattle.vtl_top.proofs.laws.migrations_are_said.Goals as goal

pub returns : goal.returns
returns g c = migration_is_said g.F.Files g.O.Sink
