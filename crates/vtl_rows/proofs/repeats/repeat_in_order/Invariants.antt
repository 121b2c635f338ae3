use Rattle.vtl_rows.proofs.Least.{IsLeast}
use Rattle.vtl_rows.proofs.repeats.repeat_in_order.Given as goal

abbrev pub invariant-loop-i : goal.invariant-loop-i
invariant-loop-i l = IsLeast l.keys l.table.rows l.places l.i l.least
