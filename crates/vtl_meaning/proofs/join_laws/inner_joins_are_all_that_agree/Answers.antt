use Rattle.vtl_meaning.proofs.JoinInner.{inner_agreed, inner_is, inner_points}
use Rattle.vtl_meaning.proofs.join_laws.inner_joins_are_all_that_agree.Goals as goal

pub returns-clause-parts : goal.returns-clause-parts
returns-clause-parts c = inner_is

pub returns-clause-tuples : goal.returns-clause-tuples
returns-clause-tuples c = inner_agreed

pub returns-clause-points : goal.returns-clause-points
returns-clause-points c = inner_points
