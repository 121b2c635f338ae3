use Rattle.std.proofs.Common.{◌≡◌, [], drop, take}
use Rattle.check_faults.specs.InTurn.{in_turn}
use Rattle.check_joins.specs.Joins.{using_name}
use Rattle.check_joins.proofs.joins.check_using_names.Given as goal

abbrev pub invariant-loop-i : goal.invariant-loop-i
invariant-loop-i l = in_turn (using_name l.operands) (take l.i l.names) (drop l.i l.names) ≡ in_turn (using_name l.operands) [] l.names
