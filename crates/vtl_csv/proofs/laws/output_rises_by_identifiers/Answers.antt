use Rattle.vtl_csv.proofs.KeyOrderLemmas.{sorted_by_key}
use Rattle.vtl_csv.proofs.laws.output_rises_by_identifiers.Goals as goal

pub returns : goal.returns
returns c = sorted_by_key
