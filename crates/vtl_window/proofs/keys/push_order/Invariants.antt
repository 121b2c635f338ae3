use Rattle.std.proofs.Common.{◌≡◌, ◌++◌, map, take}
use Rattle.vtl_tree.specs.Shown.{shown}
use Rattle.vtl_window.specs.Sorted.{ordering_key}
use Rattle.vtl_window.proofs.keys.push_order.Given as goal

abbrev pub invariant-loop-key : goal.invariant-loop-key
invariant-loop-key l = l.keys.items ≡ l.fn.keys.items ++ map (ordering_key (shown l.columns)) (take l.key-index l.order)
