use Rattle.vtl_meaning.proofs.SetsFolds.{union_more, united_fold}
use Rattle.vtl_meaning.proofs.set_laws.unions_are_folds.Goals as goal

pub returns-clause-lists : goal.returns-clause-lists
returns-clause-lists c = united_fold

pub returns-clause-sets : goal.returns-clause-sets
returns-clause-sets c = union_more
