use Rattle.std.proofs.Common.{◌≡◌, drop}
use Rattle.vtl_tree.specs.ClauseShapes.{target_of}
use Rattle.check_shapes.proofs.targets.target_of.Given as goal

abbrev pub invariant-loop-target : goal.invariant-loop-target
invariant-loop-target l = target_of l.name (drop l.target-index l.targets) ≡ target_of l.name l.targets
