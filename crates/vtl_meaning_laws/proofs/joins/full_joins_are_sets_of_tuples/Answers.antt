use Rattle.std.specs.Prelude.{◌∷◌}
use Rattle.vtl_meaning_laws.proofs.JoinTuples.{full_are_tuples, full_has_all, full_within}
use Rattle.vtl_meaning_laws.proofs.joins.full_joins_are_sets_of_tuples.Goals as goal

pub returns-clause-only : goal.returns-clause-only
returns-clause-only c = λ r ds s j h. full_are_tuples r (r ∷ ds) (full_within r ds s j h)

pub returns-clause-all : goal.returns-clause-all
returns-clause-all c = λ r ds s t j h. full_has_all r (r ∷ ds) (full_within r ds s j h) t
