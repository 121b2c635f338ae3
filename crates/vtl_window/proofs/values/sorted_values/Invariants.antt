use Rattle.std.proofs.Common.{◌≡◌, map, take}
use Rattle.std.specs.List.{concat}
use Rattle.vtl_rows.specs.Places.{row_at}
use Rattle.vtl_meaning.specs.Windows.{call_value}
use Rattle.vtl_window.specs.Calls.{lent}
use Rattle.vtl_window.proofs.values.sorted_values.Given as goal

abbrev pub invariant-loop-i : goal.invariant-loop-i
invariant-loop-i l = l.out.items ≡ map (λ k. call_value l.p l.a (lent l.call) (row_at l.a.points k)) (concat (take l.i l.partitions))
