use Rattle.vtl_top.proofs.AgreementWhole.{writes_alike}
use Rattle.vtl_top.proofs.laws.texts_write_alike.Goals as goal

pub returns : goal.returns
returns c = writes_alike
