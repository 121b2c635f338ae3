use Rattle.std.proofs.Common.{map, take}
use Rattle.sql_meaning.specs.Tables.{column_entry}
use Rattle.sql_from.specs.Columns.{AreFound}
use Rattle.sql_from.proofs.columns.columns_by_name.Given as goal

abbrev pub invariant-loop-place : goal.invariant-loop-place
invariant-loop-place l = AreFound (map column_entry (take l.place l.columns)) l.named
