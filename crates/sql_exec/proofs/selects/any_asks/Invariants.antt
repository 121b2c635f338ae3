use Rattle.std.proofs.Common.{◌≡◌, drop, map}
use Rattle.std.specs.List.{list_any}
use Rattle.sql_tree.specs.View.{item_tree}
use Rattle.sql_from.specs.Asking.{item_asks}
use Rattle.sql_exec.proofs.selects.any_asks.Given as goal

abbrev pub invariant-loop-item : goal.invariant-loop-item
invariant-loop-item l = list_any item_asks (map item_tree (drop l.item-index l.items)) ≡ list_any item_asks (map item_tree l.items)
