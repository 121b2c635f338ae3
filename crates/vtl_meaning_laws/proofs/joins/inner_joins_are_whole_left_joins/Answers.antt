use Rattle.std.specs.Prelude.{◌∷◌, slice_get}
use Rattle.std.proofs.Common.{refl, ap}
use Rattle.vtl_syntax.specs.declared.word_groups.JoinKind.TheVariants as join
use Rattle.vtl_meaning.proofs.JoinKept.{join_with}
use Rattle.vtl_meaning_laws.proofs.joins.inner_joins_are_whole_left_joins.Goals as goal

pub returns-clause-tuples : goal.returns-clause-tuples
returns-clause-tuples c = λ r ds. refl

pub returns-clause-points : goal.returns-clause-points
returns-clause-points c = λ r ds e. join_with join.Inner (r ∷ ds) r (ap (slice_get (r ∷ ds)) e)
