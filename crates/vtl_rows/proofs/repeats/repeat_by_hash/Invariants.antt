use Rattle.std.proofs.Common.{◌-◌, ◌≤◌, length}
use Rattle.vtl_rows.specs.Seen.{IsNewUpTo}
use Rattle.vtl_rows.proofs.repeats.repeat_by_hash.Given as goal

abbrev pub invariant-loop-first : goal.invariant-loop-first
invariant-loop-first l = record {
  within : l.first ≤ length l.table.rows;
  new : IsNewUpTo l.keys l.table.rows l.seen.mask l.seen.slots.items l.first;
}

abbrev pub decreases-loop-first : goal.decreases-loop-first
decreases-loop-first l = length l.table.rows - l.first
