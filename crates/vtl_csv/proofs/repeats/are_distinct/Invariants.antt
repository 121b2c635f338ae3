use Rattle.vtl_csv.proofs.DistinctLemmas.{DistinctUpTo}
use Rattle.vtl_csv.proofs.repeats.are_distinct.Given as goal

abbrev pub invariant-loop-i : goal.invariant-loop-i
invariant-loop-i l = DistinctUpTo l.from l.column l.table.rows l.met l.i
