use Rattle.std.proofs.Common.{◌≡◌}
use Rattle.vtl_index.specs.Finders.{IsLedUpTo}
use Rattle.vtl_index.proofs.finder.push_leads.Given as goal

abbrev pub invariant-loop-i : goal.invariant-loop-i
invariant-loop-i l = record {
  hashing : l.slots.hashing ≡ l.fn.slots.hashing;
  led : IsLedUpTo l.keyed l.slots l.leads.items l.i;
}
