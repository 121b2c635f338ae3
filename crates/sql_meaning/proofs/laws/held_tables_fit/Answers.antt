use Rattle.sql_meaning.proofs.HeldTables.{held_fit}
use Rattle.sql_meaning.proofs.laws.held_tables_fit.Goals as goal

pub returns : goal.returns
returns c = held_fit
