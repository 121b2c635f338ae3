use Rattle.vtl_to_sql.proofs.Accepted.{script_accepted}
use Rattle.vtl_to_sql.proofs.laws.accepted_scripts_are_translated.Goals as goal

pub returns : goal.returns
returns c = script_accepted
