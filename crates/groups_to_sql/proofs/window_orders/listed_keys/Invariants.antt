use Rattle.std.proofs.Common.{◌≡◌, map, take}
use Rattle.groups_to_sql.specs.Windowed.{key_to_sql}
use Rattle.groups_to_sql.proofs.window_orders.listed_keys.Given as goal

abbrev pub invariant-loop-key : goal.invariant-loop-key
invariant-loop-key l = l.keys.items ≡ map key_to_sql (take l.key-index l.order)
