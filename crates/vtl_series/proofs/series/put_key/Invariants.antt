use Rattle.std.proofs.Common.{◌≡◌, take}
use Rattle.vtl_rows.specs.Tables.{cells_at}
use Rattle.vtl_series.proofs.series.put_key.Given as goal

abbrev pub invariant-loop-place : goal.invariant-loop-place
invariant-loop-place l = l.key.items ≡ cells_at (take l.place-index l.by) l.row
