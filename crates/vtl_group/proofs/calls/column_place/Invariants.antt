use Rattle.std.proofs.Common.{◌≡◌, ◌+◌, drop}
use Rattle.vtl_group.specs.Calls.{column_place}
use Rattle.vtl_group.proofs.calls.column_place.Given as goal

abbrev pub invariant-loop-i : goal.invariant-loop-i
invariant-loop-i l = column_place l.name l.columns ≡ l.i + column_place l.name (drop l.i l.columns)
