use Rattle.std.proofs.Common.{◌≡◌, drop}
use Rattle.vtl_cell.specs.Row.{same_row}
use Rattle.vtl_cell.proofs.row.is_same_row.Given as goal

abbrev pub invariant-loop-i : goal.invariant-loop-i
invariant-loop-i l = same_row (drop l.i l.a) (drop l.i l.b) ≡ same_row l.a l.b
