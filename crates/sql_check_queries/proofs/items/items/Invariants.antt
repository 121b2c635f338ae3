use Rattle.std.proofs.Common.{◌≡◌, take, drop, map}
use Rattle.std.specs.List.{flat_map}
use Rattle.sql_tree.specs.View.{item_tree}
use Rattle.sql_check_parts.specs.Queries.{item_breaks, item_kind}
use Rattle.sql_check_parts.specs.Rules.{least, lesser}
use Rattle.sql_check_queries.proofs.items.items.Given as goal

abbrev pub invariant-loop-item : goal.invariant-loop-item
invariant-loop-item l = record {
  kinds : l.kinds.items ≡ map (item_kind l.at.scope) (map item_tree (take l.item-index l.items));
  fault : lesser l.fault (least (flat_map (item_breaks l.at l.group) (map item_tree (drop l.item-index l.items)))) ≡ least (flat_map (item_breaks l.at l.group) (map item_tree l.items));
}
