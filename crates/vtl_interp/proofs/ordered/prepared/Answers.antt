use Rattle.vtl_interp.proofs.Reorders.{same_reordered}
use Rattle.vtl_interp.proofs.ordered.prepared.Goals as goal

pub returns : goal.returns
returns c = same_reordered c.args.inputs
