use Rattle.vtl_meaning.proofs.JoinKept.{join_kept}
use Rattle.vtl_meaning.proofs.JoinProfiles.{join_profile}
use Rattle.vtl_meaning.proofs.join_laws.joins_keep_data_sets.Goals as goal

pub returns-clause-kept : goal.returns-clause-kept
returns-clause-kept c = join_kept

pub returns-clause-profile : goal.returns-clause-profile
returns-clause-profile c = join_profile
