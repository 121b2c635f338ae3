use Rattle.std.proofs.Common.{◌≡◌, ◌++◌, take}
use Rattle.std.specs.Prelude.{map}
use Rattle.vtl_tree.specs.ClauseShapes.{calculated}
use Rattle.check_shapes.proofs.targets.push_calculated.Given as goal

abbrev pub invariant-loop-component : goal.invariant-loop-component
invariant-loop-component l = l.out.items ≡ l.fn.out.items ++ map (calculated l.targets) (take l.component-index l.components)
