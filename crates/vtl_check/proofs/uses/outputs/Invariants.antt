use Rattle.std.proofs.Common.{◌≡◌, ◌++◌}
use Rattle.vtl_check.specs.Uses.{outputs_in}
use Rattle.vtl_check.proofs.LeftLemmas.{left}
use Rattle.vtl_check.proofs.uses.outputs.Given as goal

abbrev pub invariant-loop-statement : goal.invariant-loop-statement
invariant-loop-statement l = l.names.items ++ outputs_in (left l.statements l.statement-index) ≡ outputs_in (left l.statements 0)
