use Rattle.sql_meaning_laws.proofs.JoinRows.{inner_is, rows_are, sources_are}
use Rattle.sql_meaning_laws.proofs.joins.joins_are_pairs_and_what_meets_none.Goals as goal

pub returns-clause-inner : goal.returns-clause-inner
returns-clause-inner c = λ test n m left right. inner_is test left right

pub returns-clause-rows : goal.returns-clause-rows
returns-clause-rows c = λ kind test n m left right. rows_are test kind n m left right

pub returns-clause-sources : goal.returns-clause-sources
returns-clause-sources c = sources_are
