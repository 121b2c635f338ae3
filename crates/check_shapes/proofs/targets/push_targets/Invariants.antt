use Rattle.std.proofs.Common.{◌≡◌, ◌++◌, take}
use Rattle.std.specs.Prelude.{map}
use Rattle.vtl_tree.specs.ClauseShapes.{target_component}
use Rattle.check_shapes.proofs.targets.push_targets.Given as goal

abbrev pub invariant-loop-target : goal.invariant-loop-target
invariant-loop-target l = l.out.items ≡ l.fn.out.items ++ map target_component (take l.target-index l.targets)
