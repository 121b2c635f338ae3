use Rattle.std.proofs.Common.{◌≡◌, map, take}
use Rattle.sql_meaning.specs.Values.{place_in}
use Rattle.sql_groups.proofs.grouping.places_of.Given as goal

abbrev pub invariant-loop-column : goal.invariant-loop-column
invariant-loop-column g l = l.places.items ≡ map (place_in (g.N.Names.scope l.names)) (take l.column-index l.columns)
