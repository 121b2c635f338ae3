use Rattle.sql_meaning.proofs.ScriptFits.{script_fits, statements_fit}
use Rattle.sql_meaning.proofs.laws.typed_scripts_fit.Goals as goal

pub returns-clause-statements : goal.returns-clause-statements
returns-clause-statements c = statements_fit

pub returns-clause-scripts : goal.returns-clause-scripts
returns-clause-scripts c = script_fits
