use Rattle.vtl_meaning.proofs.JoinGrows.{agreeing_more, cross_more, full_more, left_more}
use Rattle.vtl_meaning.proofs.join_laws.joins_grow_operand_by_operand.Goals as goal

pub returns-clause-inner : goal.returns-clause-inner
returns-clause-inner c = agreeing_more

pub returns-clause-left : goal.returns-clause-left
returns-clause-left c = left_more

pub returns-clause-full : goal.returns-clause-full
returns-clause-full c = λ r ds d h. full_more r ds d h.kept h.within

pub returns-clause-cross : goal.returns-clause-cross
returns-clause-cross c = cross_more
