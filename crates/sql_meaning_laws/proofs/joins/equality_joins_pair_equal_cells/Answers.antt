use Rattle.sql_meaning_laws.proofs.JoinRows.{equal_faults, equal_rows}
use Rattle.sql_meaning_laws.proofs.joins.equality_joins_pair_equal_cells.Goals as goal

pub returns-clause-rows : goal.returns-clause-rows
returns-clause-rows c = equal_rows

pub returns-clause-faults : goal.returns-clause-faults
returns-clause-faults c = equal_faults
