use Rattle.std.proofs.Common.{take}
use Rattle.std.specs.Map.{keys_of}
use Rattle.check_rules.specs.Found.{Finds, IsOnRightAt}
use Rattle.check_rules.proofs.cycle.find_right_at.Given as goal

abbrev pub invariant-loop-i : goal.invariant-loop-i
invariant-loop-i l = Finds (IsOnRightAt l.rules (take l.i l.places)) (keys_of l.fn.found) (keys_of l.found)
