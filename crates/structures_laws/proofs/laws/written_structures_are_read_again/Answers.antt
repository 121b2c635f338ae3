use Rattle.structures_laws.proofs.Whole.{written_again}
use Rattle.structures_laws.proofs.laws.written_structures_are_read_again.Goals as goal

pub returns : goal.returns
returns c = written_again
