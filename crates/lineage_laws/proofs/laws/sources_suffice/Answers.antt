use Rattle.lineage_laws.proofs.Inputs.{sources_suffice}
use Rattle.lineage_laws.proofs.laws.sources_suffice.Goals as goal

pub returns : goal.returns
returns c = sources_suffice
