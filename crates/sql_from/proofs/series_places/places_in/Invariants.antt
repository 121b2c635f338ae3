use Rattle.std.proofs.Common.{◌≡◌, map, take}
use Rattle.std.specs.Option.{option_copied}
use Rattle.sql_meaning.specs.Tables.{place_among}
use Rattle.sql_from.specs.Held.{columns_held}
use Rattle.sql_from.specs.Sources.{or_nothing}
use Rattle.sql_from.proofs.series_places.places_in.Given as goal

abbrev pub invariant-loop-name : goal.invariant-loop-name
invariant-loop-name l = l.places.items ≡ map (place_among (columns_held (or_nothing (option_copied l.table)))) (take l.name-index l.names)
