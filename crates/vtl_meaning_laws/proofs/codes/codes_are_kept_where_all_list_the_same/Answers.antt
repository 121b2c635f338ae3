use Rattle.vtl_meaning_laws.proofs.KeptCodes.{agreed_kept, agreed_lost, choice_identifiers, existence_identifiers, paired_identifiers}
use Rattle.vtl_meaning_laws.proofs.Combined.{combined_identifiers}
use Rattle.vtl_meaning_laws.proofs.codes.codes_are_kept_where_all_list_the_same.Goals as goal

pub returns-clause-pair : goal.returns-clause-pair
returns-clause-pair c = paired_identifiers

pub returns-clause-choice : goal.returns-clause-choice
returns-clause-choice c = choice_identifiers

pub returns-clause-set : goal.returns-clause-set
returns-clause-set c = combined_identifiers

pub returns-clause-existence : goal.returns-clause-existence
returns-clause-existence c = existence_identifiers

pub returns-clause-kept : goal.returns-clause-kept
returns-clause-kept c = agreed_kept

pub returns-clause-lost : goal.returns-clause-lost
returns-clause-lost c = agreed_lost
