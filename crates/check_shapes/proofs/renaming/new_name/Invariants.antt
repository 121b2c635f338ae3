use Rattle.std.proofs.Common.{◌≡◌, drop}
use Rattle.vtl_tree.specs.ClauseShapes.{new_name}
use Rattle.check_shapes.proofs.renaming.new_name.Given as goal

abbrev pub invariant-loop-renaming : goal.invariant-loop-renaming
invariant-loop-renaming l = new_name (drop l.renaming-index l.renamings) l.name ≡ new_name l.renamings l.name
