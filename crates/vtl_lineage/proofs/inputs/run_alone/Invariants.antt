use Rattle.std.proofs.Common.{◌≡◌, ◌+◌, ◌-◌, ◌++◌}
use Rattle.vtl_lineage.specs.Numbers.{each_alone, run}
use Rattle.vtl_lineage.proofs.inputs.run_alone.Given as goal

abbrev pub invariant-loop-i : goal.invariant-loop-i
invariant-loop-i l = l.sets.items ++ each_alone (run (l.first + l.i) (l.count - l.i)) ≡ each_alone (run l.first l.count)
