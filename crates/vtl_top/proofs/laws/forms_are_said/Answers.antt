use Rattle.vtl_top.proofs.SinkLemmas.{form_is_said}
use Rattle.vtl_top.proofs.laws.forms_are_said.Goals as goal

pub returns : goal.returns
returns g c = form_is_said g.F.Files g.O.Sink
