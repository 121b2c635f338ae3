use Rattle.vtl_rows.proofs.Strict.{IsStrict}
use Rattle.vtl_rows.proofs.repeats.rise_strictly.Given as goal

abbrev pub invariant-loop-i : goal.invariant-loop-i
invariant-loop-i l = IsStrict l.keys l.table.rows l.places l.i
