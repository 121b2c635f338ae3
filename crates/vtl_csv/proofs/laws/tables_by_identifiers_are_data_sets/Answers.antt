use Rattle.vtl_csv.proofs.DataSetTextLemmas.{by_identifiers}
use Rattle.vtl_csv.proofs.laws.tables_by_identifiers_are_data_sets.Goals as goal

pub returns : goal.returns
returns c p s t is = by_identifiers p s t is
