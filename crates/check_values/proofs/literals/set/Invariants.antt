use Rattle.std.proofs.Common.{◌≡◌, drop}
use Rattle.check_values.specs.Literals.{members_typed, set_typed}
use Rattle.check_values.proofs.literals.set.Given as goal

abbrev pub invariant-loop-member : goal.invariant-loop-member
invariant-loop-member l = members_typed l.profile l.kinds l.shared l.cells.items (drop l.member-index l.literals) ≡ set_typed l.profile l.kinds l.literals
