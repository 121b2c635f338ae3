use Rattle.std.proofs.Common.{◌≡◌, take}
use Rattle.vtl_tree.specs.Shown.{shown}
use Rattle.vtl_tree.specs.Columns.{places_in}
use Rattle.vtl_rules.proofs.items.places_among.Given as goal

abbrev pub invariant-loop-column : goal.invariant-loop-column
invariant-loop-column l = l.places.items ≡ places_in (shown l.columns) (shown (take l.column-index l.wanted))
