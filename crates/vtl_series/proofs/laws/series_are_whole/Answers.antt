use Rattle.vtl_series.proofs.AgainLemmas.{again}
use Rattle.vtl_series.proofs.WholeLemmas.{contained, exactly}
use Rattle.vtl_series.proofs.laws.series_are_whole.Goals as goal

pub returns-clause-exactly : goal.returns-clause-exactly
returns-clause-exactly c = λ e on by rows key f i h. exactly e on by rows key f i h

pub returns-clause-contains : goal.returns-clause-contains
returns-clause-contains c = λ on by rows. contained on by rows

pub returns-clause-again : goal.returns-clause-again
returns-clause-again c = again
