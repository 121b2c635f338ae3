use Rattle.std.proofs.Common.{length}
use Rattle.sql_window.proofs.PutLemmas.{IsPut}
use Rattle.sql_window.proofs.windows.put_back.Given as goal

abbrev pub invariant-loop-value : goal.invariant-loop-value
invariant-loop-value l = IsPut l.places l.fn.values.items l.values.items l.back.items

abbrev pub decreases-loop-value : goal.decreases-loop-value
decreases-loop-value l = length l.values.items
