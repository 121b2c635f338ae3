use Rattle.std.proofs.Common.{◌≡◌, length}
use Rattle.sql_window.proofs.windows.nulls.Given as goal

abbrev pub invariant-loop-place : goal.invariant-loop-place
invariant-loop-place l = length l.nulls.items ≡ l._place
