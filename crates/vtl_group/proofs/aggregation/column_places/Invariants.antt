use Rattle.std.proofs.Common.{◌≡◌, map, take}
use Rattle.vtl_group.specs.Calls.{column_place}
use Rattle.vtl_group.proofs.aggregation.column_places.Given as goal

abbrev pub invariant-loop-name : goal.invariant-loop-name
invariant-loop-name l = l.places.items ≡ map (λ name. column_place name l.columns) (take l.name-index l.names)
