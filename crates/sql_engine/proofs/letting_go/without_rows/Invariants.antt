use Rattle.std.proofs.Common.{◌≡◌, take}
use Rattle.sql_engine.proofs.letting_go.without_rows.Given as goal

abbrev pub invariant-loop-column : goal.invariant-loop-column
invariant-loop-column l = l.columns.items ≡ take l.column-index l.column-items
