use Rattle.vtl_meaning.proofs.JoinPartners.{beside_looked}
use Rattle.vtl_meaning.proofs.JoinLooks.{cross_look, full_look, full_looked, inner_look, left_look}
use Rattle.vtl_meaning.proofs.join_laws.joins_by_look_up.Goals as goal

pub returns-clause-left : goal.returns-clause-left
returns-clause-left c = left_look

pub returns-clause-inner : goal.returns-clause-inner
returns-clause-inner c = inner_look

pub returns-clause-full : goal.returns-clause-full
returns-clause-full c = full_look

pub returns-clause-cross : goal.returns-clause-cross
returns-clause-cross c = cross_look

pub returns-clause-beside : goal.returns-clause-beside
returns-clause-beside c = beside_looked

pub returns-clause-at : goal.returns-clause-at
returns-clause-at c = full_looked
