use Rattle.std.proofs.Common.{map, take}
use Rattle.std.specs.Prelude.{zip}
use Rattle.sql_tree.specs.View.{item_tree}
use Rattle.sql_groups.specs.Resolved.{AllStand, group_sight}
use Rattle.sql_groups.proofs.resolving.resolved_items.Given as goal

abbrev pub invariant-loop-i : goal.invariant-loop-i
invariant-loop-i g l = AllStand (group_sight l.p (g.N.Names.tables l.names) (g.N.Names.scope l.names) l.group) (take l.i (zip (map item_tree l.items) l.kinds)) l.resolved.items
