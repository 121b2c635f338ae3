use Rattle.std.proofs.Common.{◌≡◌, drop}
use Rattle.check_values.specs.Columns.{column_from}
use Rattle.check_values.proofs.columns.column.Given as goal

abbrev pub invariant-loop-place : goal.invariant-loop-place
invariant-loop-place l = column_from l.name l.place (drop l.place l.columns) ≡ column_from l.name 0 l.columns
