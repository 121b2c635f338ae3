use Rattle.vtl_top.proofs.RefusedLemmas.{faulted_always, faulted_only}
use Rattle.vtl_top.proofs.laws.faults_are_meant.Goals as goal

pub returns : goal.returns
returns c = record { only = faulted_only; always = faulted_always }
