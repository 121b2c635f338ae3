use Rattle.vtl_meaning_laws.proofs.ClauseCodes.{joined_crossed, joined_shared}
use Rattle.vtl_meaning_laws.proofs.codes.joins_keep_codes_where_all_list_the_same.Goals as goal

pub returns-clause-shared : goal.returns-clause-shared
returns-clause-shared c = joined_shared

pub returns-clause-cross : goal.returns-clause-cross
returns-clause-cross c = joined_crossed
