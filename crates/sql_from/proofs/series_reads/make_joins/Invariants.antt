use Rattle.std.proofs.Common.{◌≡◌}
use Rattle.sql_from.proofs.series_reads.make_joins.Given as goal

abbrev pub invariant-loop-join : goal.invariant-loop-join
invariant-loop-join l = l.given ≡ l.initial.given
