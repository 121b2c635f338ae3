use Rattle.std.proofs.Common.{◌≡◌, drop, map}
use Rattle.vtl_clause.specs.Pins.{are_met, wanted_by}
use Rattle.vtl_clause.proofs.subspace.has_values.Given as goal

abbrev pub invariant-loop-pin : goal.invariant-loop-pin
invariant-loop-pin l = are_met (map wanted_by (drop l.pin-index l.pins)) l.row ≡ are_met (map wanted_by l.pins) l.row
