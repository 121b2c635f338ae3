use Rattle.vtl_meaning_laws.proofs.ClauseCodes.{calculated_identifiers, filtered_identifiers, left_identifiers, renamed_identifiers, sub_identifiers}
use Rattle.vtl_meaning_laws.proofs.codes.clauses_keep_codes.Goals as goal

pub returns-clause-filter : goal.returns-clause-filter
returns-clause-filter c = filtered_identifiers

pub returns-clause-calc : goal.returns-clause-calc
returns-clause-calc c = calculated_identifiers

pub returns-clause-left : goal.returns-clause-left
returns-clause-left c = left_identifiers

pub returns-clause-rename : goal.returns-clause-rename
returns-clause-rename c = renamed_identifiers

pub returns-clause-sub : goal.returns-clause-sub
returns-clause-sub c = sub_identifiers
