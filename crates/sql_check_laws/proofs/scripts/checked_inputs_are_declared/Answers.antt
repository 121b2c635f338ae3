use Rattle.sql_check_laws.proofs.Reached.{input_reached}
use Rattle.sql_check_laws.proofs.scripts.checked_inputs_are_declared.Goals as goal

pub returns : goal.returns
returns c = input_reached
