use Rattle.vtl_top.proofs.AgreementDeclared.{takes_alike}
use Rattle.vtl_top.proofs.laws.inputs_take_alike.Goals as goal

pub returns : goal.returns
returns c = takes_alike
