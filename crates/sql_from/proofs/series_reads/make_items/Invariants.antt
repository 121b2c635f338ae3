use Rattle.std.proofs.Common.{◌≡◌}
use Rattle.sql_from.proofs.series_reads.make_items.Given as goal

abbrev pub invariant-loop-item : goal.invariant-loop-item
invariant-loop-item l = l.given ≡ l.initial.given
