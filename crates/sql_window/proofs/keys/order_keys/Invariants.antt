use Rattle.std.proofs.Common.{◌≡◌, map, take}
use Rattle.sql_from.specs.Sources.{scope_held}
use Rattle.sql_window.specs.Keys.{order_key}
use Rattle.sql_window.proofs.keys.order_keys.Given as goal

abbrev pub invariant-loop-key : goal.invariant-loop-key
invariant-loop-key l = l.keys.items ≡ map (order_key (scope_held l.sources.sources)) (take l.key-index l.order)
