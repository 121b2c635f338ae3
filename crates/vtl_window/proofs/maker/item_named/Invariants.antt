use Rattle.std.proofs.Common.{◌≡◌, drop, map}
use Rattle.vtl_meaning.specs.Analytics.{item_named}
use Rattle.vtl_tree.specs.NodeView.{item_tree}
use Rattle.vtl_window.proofs.maker.item_named.Given as goal

abbrev pub invariant-loop-item : goal.invariant-loop-item
invariant-loop-item l = item_named (map item_tree (drop l.item-index l.items)) l.name ≡ item_named (map item_tree l.items) l.name
