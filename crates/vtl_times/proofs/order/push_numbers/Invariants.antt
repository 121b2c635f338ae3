use Rattle.std.proofs.Common.{◌≡◌, ◌++◌, take}
use Rattle.vtl_times.specs.InOrder.{of_frequency}
use Rattle.vtl_times.proofs.order.push_numbers.Given as goal

abbrev pub invariant-loop-place : goal.invariant-loop-place
invariant-loop-place l = l.numbers.items ≡ l.fn.numbers.items ++ of_frequency l.time l.frequency l.table.rows (take l.place-index l.run)
