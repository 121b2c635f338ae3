use Rattle.vtl_backend.proofs.Agrees.{agree}
use Rattle.vtl_backend.proofs.laws.answers_agree.Goals as goal

pub returns : goal.returns
returns c = agree
