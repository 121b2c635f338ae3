use Rattle.vtl_scripts.proofs.ScriptsKept.{meaning_kept, node_kept}
use Rattle.vtl_scripts.proofs.laws.scripts_keep_data_sets.Goals as goal

pub returns-clause-expression : goal.returns-clause-expression
returns-clause-expression c = node_kept

pub returns-clause-outputs : goal.returns-clause-outputs
returns-clause-outputs c = meaning_kept
