use Rattle.std.proofs.Common.{◌≡◌, take, map}
use Rattle.sql_tree.specs.View.{item_tree}
use Rattle.sql_check_parts.specs.Queries.{item_name}
use Rattle.sql_check_queries.proofs.items.names.Given as goal

abbrev pub invariant-loop-item : goal.invariant-loop-item
invariant-loop-item l = l.names.items ≡ map item_name (map item_tree (take l.item-index l.items))
