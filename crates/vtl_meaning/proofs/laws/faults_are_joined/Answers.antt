use Rattle.vtl_meaning.proofs.Faults.{each_fault, filter_fault}
use Rattle.vtl_meaning.proofs.laws.faults_are_joined.Goals as goal

pub returns-clause-each : goal.returns-clause-each
returns-clause-each c = each_fault

pub returns-clause-filter : goal.returns-clause-filter
returns-clause-filter c = filter_fault
