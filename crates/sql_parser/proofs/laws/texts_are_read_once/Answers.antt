use Rattle.sql_parser.proofs.Texts.{not_both, one_fault, one_script}
use Rattle.sql_parser.proofs.laws.texts_are_read_once.Goals as goal

pub returns-clause-one : goal.returns-clause-one
returns-clause-one c = one_script

pub returns-clause-apart : goal.returns-clause-apart
returns-clause-apart c = not_both

pub returns-clause-faults : goal.returns-clause-faults
returns-clause-faults c = one_fault
