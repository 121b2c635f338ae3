use Rattle.sql_meaning_laws.proofs.RowsBefore.{place_is, place_within_partition, row_is, row_there}
use Rattle.sql_meaning_laws.proofs.windows.rows_stand_behind_those_before_them.Goals as goal

pub returns-clause-row : goal.returns-clause-row
returns-clause-row c = row_is

pub returns-clause-place : goal.returns-clause-place
returns-clause-place c = place_is

pub returns-clause-within : goal.returns-clause-within
returns-clause-within c = place_within_partition

pub returns-clause-there : goal.returns-clause-there
returns-clause-there c = row_there
