use Rattle.std.proofs.Common.{◌≡◌, drop}
use Rattle.std.specs.Prelude.{map}
use Rattle.vtl_tree.specs.NodeView.{item_tree}
use Rattle.vtl_tree.specs.Names.{is_among}
use Rattle.check_clauses.specs.Targets.{item_names}
use Rattle.check_clauses.proofs.calc_targets.is_target.Given as goal

abbrev pub invariant-loop-item : goal.invariant-loop-item
invariant-loop-item l = is_among l.name (item_names (map item_tree (drop l.item-index l.done))) ≡ is_among l.name (item_names (map item_tree l.done))
