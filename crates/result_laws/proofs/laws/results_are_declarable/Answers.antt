use Rattle.result_laws.proofs.Results.{script_declarable}
use Rattle.result_laws.proofs.laws.results_are_declarable.Goals as goal

pub returns : goal.returns
returns c = script_declarable
