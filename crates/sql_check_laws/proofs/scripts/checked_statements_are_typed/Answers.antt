use Rattle.sql_check_laws.proofs.TypedStatements.{reached}
use Rattle.sql_check_laws.proofs.scripts.checked_statements_are_typed.Goals as goal

pub returns : goal.returns
returns c = reached
