use Rattle.std.proofs.Common.{◌≡◌, take}
use Rattle.std.specs.Prelude.{map}
use Rattle.vtl_tree.specs.NodeView.{item_tree}
use Rattle.check_clauses.specs.Targets.{target_of}
use Rattle.check_clauses.proofs.calc_targets.targets_of.Given as goal

abbrev pub invariant-loop-item : goal.invariant-loop-item
invariant-loop-item l = l.targets.items ≡ map (target_of l.components) (map item_tree (take l.item-index l.items))
