use Rattle.std.proofs.Common.{◌≡◌, ◌++◌, take}
use Rattle.vtl_rows.specs.Tables.{cells_at}
use Rattle.vtl_rows.proofs.project.append_chosen.Given as goal

abbrev pub invariant-loop-place : goal.invariant-loop-place
invariant-loop-place l = l.cells.items ≡ l.initial.cells.items ++ cells_at (take l.place-index l.places) l.row
