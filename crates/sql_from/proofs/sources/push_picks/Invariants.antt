use Rattle.std.proofs.Common.{◌≡◌, ◌++◌}
use Rattle.sql_from.specs.Rows.{picks_at}
use Rattle.sql_from.proofs.sources.push_picks.Given as goal

abbrev pub invariant-loop-column : goal.invariant-loop-column
invariant-loop-column l = l.picks.items ≡ l.initial.picks.items ++ picks_at l.part l.column
