use Rattle.std.proofs.Common.{map, take}
use Rattle.std.specs.Prelude.{zip}
use Rattle.sql_tree.specs.View.{item_tree}
use Rattle.sql_exec.specs.SimpleItems.{AreSimple}
use Rattle.sql_exec.proofs.simple_items.simple_items.Given as goal

abbrev pub invariant-loop-i : goal.invariant-loop-i
invariant-loop-i g l = AreSimple (g.N.Names.scope l.names) (take l.i (zip (map item_tree l.items) l.kinds)) l.simple.items
