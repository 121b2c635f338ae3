use Rattle.vtl_csv.proofs.InputDataSetLemmas.{dataset_good}
use Rattle.vtl_csv.proofs.input_laws.read_rows_are_a_data_set.Goals as goal

pub returns : goal.returns
returns c = λ p s not_null text rows well e. dataset_good p s not_null text rows well e
