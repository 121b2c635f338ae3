use Rattle.std.proofs.Common.{◌≡◌, ◌-◌, ◌^◌, replicate}
use Rattle.vtl_index.proofs.row_slots.free_slots.Given as goal

abbrev pub invariant-loop : goal.invariant-loop
invariant-loop l = l.slots.items ≡ replicate l.counter (record { tag = 0; row = 2 ^ 32 - 1 })
