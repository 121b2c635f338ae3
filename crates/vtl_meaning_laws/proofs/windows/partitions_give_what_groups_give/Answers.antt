use Rattle.vtl_meaning_laws.proofs.WholeGroups.{faults_alike, over_is, values_beside}
use Rattle.vtl_meaning_laws.proofs.windows.partitions_give_what_groups_give.Goals as goal

pub returns-clause-values : goal.returns-clause-values
returns-clause-values c = λ p f o names d s t e i j h. values_beside p f o names d s t (over_is f o e) i j h

pub returns-clause-faults : goal.returns-clause-faults
returns-clause-faults c = λ p f o names d s t e i j h. faults_alike p f o names d s t (over_is f o e) i j h
