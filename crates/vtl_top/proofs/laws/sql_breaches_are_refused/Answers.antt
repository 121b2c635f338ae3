use Rattle.vtl_top.proofs.SqlMeantLemmas.{sql_mistyped_always}
use Rattle.vtl_top.proofs.laws.sql_breaches_are_refused.Goals as goal

pub returns : goal.returns
returns c = sql_mistyped_always
