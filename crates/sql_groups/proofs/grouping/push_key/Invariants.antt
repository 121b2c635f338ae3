use Rattle.std.proofs.Common.{◌≡◌, ◌++◌, take}
use Rattle.vtl_rows.specs.Places.{row_at}
use Rattle.vtl_rows.specs.Tables.{cells_at}
use Rattle.sql_groups.specs.Kept.{rows_of}
use Rattle.sql_groups.proofs.grouping.push_key.Given as goal

abbrev pub invariant-loop-place : goal.invariant-loop-place
invariant-loop-place l = l.key.items ≡ l.fn.key.items ++ cells_at (take l.place-index l.places) (row_at (rows_of l.rows) l.number)
