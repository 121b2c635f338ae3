use Rattle.std.proofs.Common.{◌≡◌, map, take}
use Rattle.sql_tree.specs.View.{item_tree}
use Rattle.sql_check_parts.specs.Queries.{item_kind}
use Rattle.sql_exec.proofs.columns.item_kinds.Given as goal

abbrev pub invariant-loop-item : goal.invariant-loop-item
invariant-loop-item g l = l.kinds.items ≡ map (item_kind (g.N.Names.scope l.names)) (map item_tree (take l.item-index l.items))
