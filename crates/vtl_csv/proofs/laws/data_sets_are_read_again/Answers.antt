use Rattle.vtl_csv.proofs.ReadAgainLemmas.{read_again}
use Rattle.vtl_csv.proofs.laws.data_sets_are_read_again.Goals as goal

pub returns : goal.returns
returns c p s points is reads = read_again p s points is reads
