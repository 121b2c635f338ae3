use Rattle.vtl_top.proofs.SqlMeantLemmas.{sql_faulted_always, sql_faulted_only}
use Rattle.vtl_top.proofs.laws.sql_faults_are_meant.Goals as goal

pub returns-clause-only : goal.returns-clause-only
returns-clause-only c = λ e held fault name. sql_faulted_only fault name held e

pub returns-clause-always : goal.returns-clause-always
returns-clause-always c = sql_faulted_always
