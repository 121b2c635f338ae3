use Rattle.sql_meaning.proofs.Faulted.{query_fault, select_worst, source_fault}
use Rattle.sql_meaning.proofs.laws.faults_are_joined.Goals as goal

pub returns-clause-sources : goal.returns-clause-sources
returns-clause-sources c = source_fault

pub returns-clause-selects : goal.returns-clause-selects
returns-clause-selects c = select_worst

pub returns-clause-queries : goal.returns-clause-queries
returns-clause-queries c = query_fault
