use Rattle.std.proofs.Common.{◌≡◌, false, take}
use Rattle.std.specs.List.{list_any}
use Rattle.vtl_index.specs.Buckets.{is_free}
use Rattle.vtl_index.proofs.bucket.fill.Given as goal

abbrev pub invariant-loop-i : goal.invariant-loop-i
invariant-loop-i l = (l.slots ≡ l.initial.slots) × (list_any is_free (take l.i l.slots) ≡ false)
