use Rattle.vtl_rows.specs.Seen.{AreUsed, NoneMatches}
use Rattle.vtl_rows.proofs.seen.seek.Given as goal

abbrev pub invariant-loop-i : goal.invariant-loop-i
invariant-loop-i l = AreUsed l.slots l.probe.start l.i l.probe.row × NoneMatches l.keys l.table.rows l.slots l.probe l.i
