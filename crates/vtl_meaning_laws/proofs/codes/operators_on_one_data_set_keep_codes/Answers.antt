use Rattle.vtl_meaning_laws.proofs.KeptCodes.{measured_identifiers, pivoted_identifiers, unpivoted_identifiers}
use Rattle.vtl_meaning_laws.proofs.codes.operators_on_one_data_set_keep_codes.Goals as goal

pub returns-clause-measures : goal.returns-clause-measures
returns-clause-measures c = measured_identifiers

pub returns-clause-aggregate : goal.returns-clause-aggregate
returns-clause-aggregate c = λ spec a s i. i.identifiers

pub returns-clause-analytic : goal.returns-clause-analytic
returns-clause-analytic c = λ p spec a s i. i.identifiers

pub returns-clause-pivot : goal.returns-clause-pivot
returns-clause-pivot c = pivoted_identifiers

pub returns-clause-unpivot : goal.returns-clause-unpivot
returns-clause-unpivot c = unpivoted_identifiers
