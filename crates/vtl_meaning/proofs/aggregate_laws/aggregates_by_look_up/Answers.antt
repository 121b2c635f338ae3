use Rattle.vtl_meaning.proofs.GroupLooks.{looked}
use Rattle.vtl_meaning.proofs.aggregate_laws.aggregates_by_look_up.Goals as goal

pub returns : goal.returns
returns c = looked
