use Rattle.std.proofs.Common.{◌≡◌}
use Rattle.sql_from.proofs.series_reads.given_for.Given as goal

abbrev pub invariant-loop-select : goal.invariant-loop-select
invariant-loop-select l = l.given ≡ l.held
