use Rattle.std.proofs.Common.{◌≡◌, ◌+◌, ◌-◌, ◌++◌}
use Rattle.vtl_lineage.specs.Numbers.{run}
use Rattle.vtl_lineage.proofs.inputs.run.Given as goal

abbrev pub invariant-loop-i : goal.invariant-loop-i
invariant-loop-i l = l.numbers.items ++ run (l.first + l.i) (l.count - l.i) ≡ run l.first l.count
