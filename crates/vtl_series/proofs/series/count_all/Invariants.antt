use Rattle.vtl_series.proofs.series.count_all.Given as goal

abbrev pub invariant-loop-group : goal.invariant-loop-group
invariant-loop-group l = Unit {0}
