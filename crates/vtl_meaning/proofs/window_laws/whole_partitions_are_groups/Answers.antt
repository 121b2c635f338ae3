use Rattle.vtl_meaning.proofs.WindowPlaces.{whole_group}
use Rattle.vtl_meaning.proofs.window_laws.whole_partitions_are_groups.Goals as goal

pub returns : goal.returns
returns c = whole_group
