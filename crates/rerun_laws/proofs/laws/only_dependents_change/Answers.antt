use Rattle.rerun_laws.proofs.Changes.{changed_only, others_kept}
use Rattle.rerun_laws.proofs.laws.only_dependents_change.Goals as goal

pub returns-clause-statements : goal.returns-clause-statements
returns-clause-statements c = changed_only

pub returns-clause-script : goal.returns-clause-script
returns-clause-script c = others_kept
