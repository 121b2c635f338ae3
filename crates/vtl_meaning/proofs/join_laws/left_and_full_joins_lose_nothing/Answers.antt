use Rattle.vtl_meaning.proofs.JoinLooks.{full_has_each, full_loses_nothing, left_loses_nothing}
use Rattle.vtl_meaning.proofs.join_laws.left_and_full_joins_lose_nothing.Goals as goal

pub returns-clause-left : goal.returns-clause-left
returns-clause-left c = left_loses_nothing

pub returns-clause-full : goal.returns-clause-full
returns-clause-full c = full_loses_nothing

pub returns-clause-parts : goal.returns-clause-parts
returns-clause-parts c = full_has_each
