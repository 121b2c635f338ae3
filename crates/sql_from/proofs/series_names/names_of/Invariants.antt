use Rattle.std.proofs.Common.{◌≡◌, take}
use Rattle.sql_from.proofs.series_names.names_of.Given as goal

abbrev pub invariant-loop-name : goal.invariant-loop-name
invariant-loop-name l = l.names.items ≡ take l.name-index l.name-items
