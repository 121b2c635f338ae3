use Rattle.std.proofs.Common.{◌-◌, ◌≤◌}
use Rattle.vtl_index.specs.Finders.{IsLedUpTo}
use Rattle.vtl_index.specs.RowKeys.{count_in}
use Rattle.vtl_index.proofs.finder.led_by_hash.Given as goal

abbrev pub invariant-loop-first : goal.invariant-loop-first
invariant-loop-first l = record {
  within : l.first ≤ count_in l.keyed;
  led : IsLedUpTo l.keyed l.slots l.leads.items l.first;
}

abbrev pub decreases-loop-first : goal.decreases-loop-first
decreases-loop-first l = count_in l.keyed - l.first
