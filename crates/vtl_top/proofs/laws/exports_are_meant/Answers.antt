use Rattle.vtl_top.proofs.SqlMeantLemmas.{exported_always, exported_only}
use Rattle.vtl_top.proofs.laws.exports_are_meant.Goals as goal

pub returns-clause-only : goal.returns-clause-only
returns-clause-only c = exported_only

pub returns-clause-always : goal.returns-clause-always
returns-clause-always c = exported_always
