use Rattle.vtl_scripts.proofs.Determined.{form_shape}
use Rattle.vtl_scripts.proofs.laws.results_are_determined.Goals as goal

pub returns : goal.returns
returns c = form_shape
