use Rattle.vtl_top.proofs.SinkLemmas.{demo_is_said}
use Rattle.vtl_top.proofs.laws.demonstrations_are_said.Goals as goal

pub returns : goal.returns
returns g c = demo_is_said g.F.Files g.O.Sink
