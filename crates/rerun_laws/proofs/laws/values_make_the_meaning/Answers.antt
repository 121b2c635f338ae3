use Rattle.rerun_laws.proofs.Turns.{values_meant}
use Rattle.rerun_laws.proofs.laws.values_make_the_meaning.Goals as goal

pub returns : goal.returns
returns c = values_meant
