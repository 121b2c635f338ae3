use Rattle.rerun_laws.proofs.Given.{part_meant}
use Rattle.rerun_laws.proofs.laws.parts_mean_their_transformations.Goals as goal

pub returns : goal.returns
returns c = λ part s env tables are typed one sets alike given. part_meant part s env tables are typed one alike given sets
