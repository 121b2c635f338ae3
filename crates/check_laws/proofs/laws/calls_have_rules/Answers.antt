use Rattle.check_laws.proofs.DepthScripts.{script-rules}
use Rattle.check_laws.proofs.laws.calls_have_rules.Goals as goal

pub returns : goal.returns
returns c = script-rules
