use Rattle.rerun_laws.proofs.Given.{range_given, tables_given}
use Rattle.rerun_laws.proofs.laws.results_may_be_given_on.Goals as goal

pub returns-clause-inputs : goal.returns-clause-inputs
returns-clause-inputs c = tables_given

pub returns-clause-ranges : goal.returns-clause-ranges
returns-clause-ranges c = range_given
