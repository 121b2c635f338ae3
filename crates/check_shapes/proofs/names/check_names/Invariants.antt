use Rattle.std.proofs.Common.{◌≡◌, drop, take}
use Rattle.check_faults.specs.InTurn.{in_turn}
use Rattle.check_shapes.specs.Names.{all_known, known_name}
use Rattle.check_shapes.proofs.names.check_names.Given as goal

abbrev pub invariant-loop-i : goal.invariant-loop-i
invariant-loop-i l = in_turn (known_name l.wanted l.components) (take l.i l.names) (drop l.i l.names) ≡ all_known l.wanted l.components l.names
