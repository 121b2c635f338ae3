use Rattle.vtl_meaning_laws.proofs.Regrouped.{two_differences}
use Rattle.vtl_meaning_laws.proofs.sets.symmetric_differences_are_two_differences.Goals as goal

pub returns : goal.returns
returns c = two_differences
