use Rattle.vtl_meaning_laws.proofs.Swapped.{pairs_turned}
use Rattle.vtl_meaning_laws.proofs.joins.inner_joins_do_not_see_which_stands_first.Goals as goal

pub returns : goal.returns
returns c = pairs_turned
