use Rattle.std.proofs.Common.{◌≡◌, ◌+◌}
use Rattle.vtl_index.proofs.row_index.count_rows.Given as goal

abbrev pub invariant-loop : goal.invariant-loop
invariant-loop g l = l.steps ≡ l.initial.steps + l.counter
