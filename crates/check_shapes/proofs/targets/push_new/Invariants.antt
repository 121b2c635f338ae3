use Rattle.std.proofs.Common.{◌≡◌, ◌++◌, take}
use Rattle.std.specs.Prelude.{filter, map}
use Rattle.vtl_tree.specs.ClauseShapes.{is_new, target_component}
use Rattle.check_shapes.proofs.targets.push_new.Given as goal

abbrev pub invariant-loop-target : goal.invariant-loop-target
invariant-loop-target l = l.out.items ≡ l.fn.out.items ++ map target_component (filter (is_new l.components) (take l.target-index l.targets))
