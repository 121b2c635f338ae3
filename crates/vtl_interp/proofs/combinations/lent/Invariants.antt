use Rattle.std.proofs.Common.{◌≡◌, map, take}
use Rattle.vtl_tree.specs.Shown.{shown}
use Rattle.vtl_interp.specs.Values.{value_view}
use Rattle.vtl_interp.proofs.combinations.lent.Given as goal

abbrev pub invariant-loop-value : goal.invariant-loop-value
invariant-loop-value l = shown l.sets.items ≡ map value_view (take l.value-index l.values)
