use Rattle.vtl_grammar.proofs.ScriptLemmas.{whole_or_fault}
use Rattle.vtl_grammar.proofs.UniqueLemmas.{fault_determined, whole_no_fault}
use Rattle.vtl_grammar.proofs.laws.faults_are_determined.Goals as goal

pub returns-clause-one : goal.returns-clause-one
returns-clause-one c = λ ts bad done byte other at f g. fault_determined ts bad done other byte at f g

pub returns-clause-apart : goal.returns-clause-apart
returns-clause-apart c = whole_no_fault

pub returns-clause-either : goal.returns-clause-either
returns-clause-either c = whole_or_fault
