use Rattle.std.proofs.Common.{◌≡◌, map, take}
use Rattle.vtl_tree.specs.Shown.{shown}
use Rattle.vtl_group.specs.Calls.{placed_for}
use Rattle.vtl_group.proofs.aggregation.calls_of.Given as goal

abbrev pub invariant-loop-column : goal.invariant-loop-column
invariant-loop-column l = l.calls.items ≡ map (λ y. placed_for l.columns l.items y.name) (shown (take l.column-index l.wanted))
