use Rattle.vtl_demo.proofs.Spelled.{spelled}
use Rattle.vtl_demo.proofs.TypedNodes.{reads_both, typed}
use Rattle.vtl_demo.proofs.laws.script_is_accepted.Goals as goal

pub returns-clause-spelled : goal.returns-clause-spelled
returns-clause-spelled c = spelled

pub returns-clause-typed : goal.returns-clause-typed
returns-clause-typed c = typed

pub returns-clause-reads : goal.returns-clause-reads
returns-clause-reads c = reads_both
