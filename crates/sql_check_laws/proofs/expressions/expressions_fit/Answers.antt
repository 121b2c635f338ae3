use Rattle.sql_check_laws.proofs.BothWays.{exactly}
use Rattle.sql_check_laws.proofs.FittingExpressions.{expression_fits}
use Rattle.sql_check_laws.proofs.expressions.expressions_fit.Goals as goal

pub returns : goal.returns
returns c = λ at g e. exactly (expression_fits at g e)
