use Rattle.std.proofs.Common.{◌≡◌, ◌++◌, drop}
use Rattle.vtl.specs.Falling.{all_falling}
use Rattle.vtl.proofs.falling.all_falling.Given as goal

abbrev pub invariant-loop-i : goal.invariant-loop-i
invariant-loop-i l = l.all ++ drop l.i (all_falling l.tables) ≡ all_falling l.tables
