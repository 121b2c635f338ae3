use Rattle.vtl_lists.proofs.Sorts.{sorted_by-Perm, Perm-sorted_by, Rises-sorted_by}
use Rattle.vtl_lists.proofs.sorted_is_one.Goals as goal

pub returns-clause-same : goal.returns-clause-same
returns-clause-same g c = λ le xs ys o p. sorted_by-Perm o p

pub returns-clause-items : goal.returns-clause-items
returns-clause-items g c = λ le xs o. Perm-sorted_by o xs

pub returns-clause-rises : goal.returns-clause-rises
returns-clause-rises g c = λ le xs o. Rises-sorted_by o xs
