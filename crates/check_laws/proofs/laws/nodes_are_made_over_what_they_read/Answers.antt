use Rattle.check_laws.proofs.Over.{made_over, names_known}
use Rattle.check_laws.proofs.laws.nodes_are_made_over_what_they_read.Goals as goal

pub returns-clause-known : goal.returns-clause-known
returns-clause-known c = names_known

pub returns-clause-over : goal.returns-clause-over
returns-clause-over c = made_over
