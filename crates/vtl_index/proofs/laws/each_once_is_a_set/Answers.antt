use Rattle.vtl_index.proofs.KeyGroups.{once_all, once_apart}
use Rattle.vtl_index.proofs.laws.each_once_is_a_set.Goals as goal

pub returns-clause-apart : goal.returns-clause-apart
returns-clause-apart c = once_apart

pub returns-clause-all : goal.returns-clause-all
returns-clause-all c = once_all
