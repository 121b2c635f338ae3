use Rattle.sql_check_laws.proofs.BothWays.{exactly}
use Rattle.sql_check_laws.proofs.TypedSelects.{select_typed}
use Rattle.sql_check_laws.proofs.queries.selects_are_typed.Goals as goal

pub returns : goal.returns
returns c = λ p tables s. exactly (select_typed p tables s)
