use Rattle.vtl_format.proofs.Scripts.{same-script}
use Rattle.vtl_format.proofs.laws.formatted_scripts_are_their_scripts.Goals as goal

pub returns : goal.returns
returns c = same-script
