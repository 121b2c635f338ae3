use Rattle.vtl_csv.proofs.InputDataSetLemmas.{dataset_of_profile}
use Rattle.vtl_csv.proofs.input_laws.read_rows_are_of_the_profile.Goals as goal

pub returns : goal.returns
returns c = λ p s not_null text rows well e. dataset_of_profile p s not_null text rows well e
