use Rattle.std.proofs.Common.{◌≡◌, map, take}
use Rattle.sql_from.specs.Sources.{scope_held}
use Rattle.sql_window.specs.Keys.{partition_key}
use Rattle.sql_window.proofs.keys.partition_keys.Given as goal

abbrev pub invariant-loop-column : goal.invariant-loop-column
invariant-loop-column l = l.keys.items ≡ map (partition_key (scope_held l.sources.sources)) (take l.column-index l.columns)
