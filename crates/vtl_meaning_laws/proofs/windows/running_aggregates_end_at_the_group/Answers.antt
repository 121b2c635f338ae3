use Rattle.vtl_meaning_laws.proofs.Stands.{running_whole}
use Rattle.vtl_meaning_laws.proofs.windows.running_aggregates_end_at_the_group.Goals as goal

pub returns : goal.returns
returns c = running_whole
