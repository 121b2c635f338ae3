use Rattle.vtl_meaning_laws.proofs.JoinTuples.{left_are_tuples, left_has_all, left_within}
use Rattle.vtl_meaning_laws.proofs.joins.left_joins_are_sets_of_tuples.Goals as goal

pub returns-clause-only : goal.returns-clause-only
returns-clause-only c = λ r ds s j h. left_are_tuples r ds (left_within r ds s j h)

pub returns-clause-all : goal.returns-clause-all
returns-clause-all c = λ r ds s t j h. left_has_all r ds (left_within r ds s j h) t
