use Rattle.std.proofs.Common.{◌≡◌, drop}
use Rattle.vtl_tree.specs.Names.{is_among}
use Rattle.groups_to_sql.specs.Windowed.{key_names}
use Rattle.groups_to_sql.proofs.window_orders.is_key.Given as goal

abbrev pub invariant-loop-key : goal.invariant-loop-key
invariant-loop-key l = is_among l.name (key_names (drop l.key-index l.keys)) ≡ is_among l.name (key_names l.keys)
