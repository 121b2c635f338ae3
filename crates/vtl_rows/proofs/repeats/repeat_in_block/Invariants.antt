use Rattle.std.proofs.Common.{◌≡◌, ◌+◌}
use Rattle.vtl_rows.specs.Seen.{IsNewUpTo}
use Rattle.vtl_rows.proofs.repeats.repeat_in_block.Given as goal

abbrev pub invariant-loop-probe : goal.invariant-loop-probe
invariant-loop-probe l = record {
  same_mask : l.seen.mask ≡ l.fn.seen.mask;
  new : IsNewUpTo l.keys l.table.rows l.seen.mask l.seen.slots.items (l.first + l.probe-index);
}
