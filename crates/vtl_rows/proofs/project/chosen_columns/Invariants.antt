use Rattle.std.proofs.Common.{◌≡◌, take, map}
use Rattle.vtl_rows.specs.Tables.{column_at}
use Rattle.vtl_rows.proofs.project.chosen_columns.Given as goal

abbrev pub invariant-loop-i : goal.invariant-loop-i
invariant-loop-i l = l.chosen.items ≡ map (column_at l.columns) (take l.i-index l.places)
