use Rattle.std.proofs.Common.{map, take}
use Rattle.std.specs.Prelude.{zip}
use Rattle.sql_tree.specs.View.{item_tree}
use Rattle.sql_from.specs.Standing.{rows_for, sight_of}
use Rattle.sql_exec.specs.Items.{HaveValuesOf}
use Rattle.sql_exec.proofs.items.row_items.Given as goal

abbrev pub invariant-loop-i : goal.invariant-loop-i
invariant-loop-i l = HaveValuesOf (sight_of l.p l.rows.sources) (rows_for l.rows.sources l.rows.tuples) (take l.i (zip (map item_tree l.items) l.kinds)) l.row_items.items
