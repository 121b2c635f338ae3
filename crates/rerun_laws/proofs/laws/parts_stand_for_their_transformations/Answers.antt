use Rattle.rerun_laws.proofs.Places.{part_known, part_statements, statements_made}
use Rattle.rerun_laws.proofs.laws.parts_stand_for_their_transformations.Goals as goal

pub returns-clause-statement : goal.returns-clause-statement
returns-clause-statement c = part_statements

pub returns-clause-known : goal.returns-clause-known
returns-clause-known c = part_known

pub returns-clause-made : goal.returns-clause-made
returns-clause-made c = statements_made
