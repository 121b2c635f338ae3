use Rattle.std.proofs.Common.{◌≡◌, map}
use Rattle.sql_from.specs.FromTables.{kept_table}
use Rattle.sql_from.proofs.FromGiven.{given_to}
use Rattle.sql_from.proofs.from_tables.FromTables.of.Given as goal

abbrev pub invariant-loop-join : goal.invariant-loop-join
invariant-loop-join l = map kept_table l.tables.items ≡ given_to l.held l.select.from l.join-items l.join-index
