use Rattle.sql_check_laws.proofs.TypedStatements.{script_typed}
use Rattle.sql_check_laws.proofs.scripts.scripts_are_typed.Goals as goal

pub returns : goal.returns
returns c = script_typed
