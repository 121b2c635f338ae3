use Rattle.std.proofs.Common.{◌≡◌, map, take}
use Rattle.vtl_tree.specs.Columns.{place_of}
use Rattle.vtl_tree.specs.Shown.{shown}
use Rattle.vtl_tree.specs.Structure.{columns_of}
use Rattle.vtl_times.specs.InOrder.{rising_key}
use Rattle.vtl_times.proofs.order.group_keys.Given as goal

abbrev pub invariant-loop-other : goal.invariant-loop-other
invariant-loop-other l = l.keys.items ≡ map (λ y. rising_key (place_of y.name (columns_of l.structure))) (shown (take l.other-index l.other-items))
