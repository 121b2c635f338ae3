use Rattle.std.proofs.Common.{◌≡◌, ◌++◌, take}
use Rattle.vtl_rows.specs.Tables.{cells_at}
use Rattle.vtl_expr.proofs.places.push_cells.Given as goal

abbrev pub invariant-loop-place : goal.invariant-loop-place
invariant-loop-place l = l.cells.items ≡ l.fn.cells.items ++ cells_at (take l.place-index l.places) l.row
