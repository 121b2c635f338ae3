use Rattle.std.proofs.Common.{◌≡◌, ◌≤◌}
use Rattle.vtl_decimal.specs.Written.{shortest_digits}
use Rattle.vtl_decimal.proofs.writing.push_fraction.Given as goal

abbrev pub invariant-loop-width : goal.invariant-loop-width
invariant-loop-width l = record {
  same : shortest_digits l.width l.rest ≡ shortest_digits l.scale l.fraction;
  in_range : l.width ≤ l.scale;
}

abbrev pub decreases-loop-width : goal.decreases-loop-width
decreases-loop-width l = l.width
