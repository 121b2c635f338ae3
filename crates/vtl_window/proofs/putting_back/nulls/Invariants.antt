use Rattle.std.proofs.Common.{◌≡◌, length}
use Rattle.vtl_window.proofs.putting_back.nulls.Given as goal

abbrev pub invariant-loop : goal.invariant-loop
invariant-loop l = length l.cells.items ≡ l.counter
