use Rattle.std.proofs.Common.{◌≡◌, drop}
use Rattle.check_shapes.specs.Clauses.{has_no_name}
use Rattle.check_shapes.proofs.pivots.has_no_name.Given as goal

abbrev pub invariant-loop-text : goal.invariant-loop-text
invariant-loop-text l = has_no_name (drop l.text-index l.texts) ≡ has_no_name l.texts
