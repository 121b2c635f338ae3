use Rattle.sql_check_parts.proofs.Places.{found_placed}
use Rattle.sql_check_laws.proofs.columns.columns_have_places.Goals as goal

pub returns : goal.returns
returns g c = found_placed
