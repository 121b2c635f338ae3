use Rattle.sql_check_laws.proofs.Reached.{create_reached}
use Rattle.sql_check_laws.proofs.scripts.checked_creates_are_whole.Goals as goal

pub returns : goal.returns
returns c = create_reached
