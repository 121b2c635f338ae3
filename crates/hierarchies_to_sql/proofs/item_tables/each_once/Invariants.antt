use Rattle.std.proofs.Common.{◌≡◌, take}
use Rattle.std.specs.Map.{keys_of}
use Rattle.vtl_tree.specs.Structure.{same_name}
use Rattle.vtl_tuples.specs.Keys.{each_once}
use Rattle.hierarchies_to_sql.proofs.item_tables.each_once.Given as goal

abbrev pub invariant-loop-item : goal.invariant-loop-item
invariant-loop-item l = (l.once.items ≡ each_once same_name (take l.item-index l.items)) × (keys_of l.seen ≡ l.once.items)
