use Rattle.std.proofs.Common.{◌≡◌, ◌++◌, take}
use Rattle.std.specs.Prelude.{map}
use Rattle.vtl_tree.specs.ClauseShapes.{renamed}
use Rattle.check_shapes.proofs.renaming.push_renamed.Given as goal

abbrev pub invariant-loop-component : goal.invariant-loop-component
invariant-loop-component l = l.out.items ≡ l.fn.out.items ++ map (renamed l.renamings) (take l.component-index l.components)
