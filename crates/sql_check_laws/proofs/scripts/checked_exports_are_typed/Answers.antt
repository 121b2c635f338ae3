use Rattle.sql_check_laws.proofs.Reached.{export_reached}
use Rattle.sql_check_laws.proofs.scripts.checked_exports_are_typed.Goals as goal

pub returns : goal.returns
returns c = export_reached
