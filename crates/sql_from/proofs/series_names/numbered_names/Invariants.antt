use Rattle.std.proofs.Common.{◌≡◌, [], take}
use Rattle.std.specs.List.{fold}
use Rattle.sql_from.specs.Columns.{and_number}
use Rattle.sql_from.proofs.series_names.numbered_names.Given as goal

abbrev pub invariant-loop-name : goal.invariant-loop-name
invariant-loop-name l = l.numbers ≡ fold and_number [] (take l.name-index l.names)
