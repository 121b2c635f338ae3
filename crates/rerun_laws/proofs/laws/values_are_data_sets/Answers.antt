use Rattle.rerun_laws.proofs.DataSets.{data_behind, known_there, values_kept}
use Rattle.rerun_laws.proofs.laws.values_are_data_sets.Goals as goal

pub returns-clause-values : goal.returns-clause-values
returns-clause-values c = values_kept

pub returns-clause-sets : goal.returns-clause-sets
returns-clause-sets c = data_behind

pub returns-clause-known : goal.returns-clause-known
returns-clause-known c = known_there
