use Rattle.std.proofs.Common.{◌≡◌, map, take}
use Rattle.vtl_rows.specs.Tables.{column_at}
use Rattle.vtl_series.proofs.columns.series_columns.Given as goal

abbrev pub invariant-loop-place : goal.invariant-loop-place
invariant-loop-place l = l.made.items ≡ map (column_at l.columns) (take l.place-index l.by)
