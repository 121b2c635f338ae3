use Rattle.std.proofs.Common.{◌≡◌, map, take}
use Rattle.std.specs.Prelude.{zip}
use Rattle.sql_tree.specs.View.{item_tree}
use Rattle.sql_meaning.specs.Selects.{item_value}
use Rattle.sql_from.specs.Standing.{rows_for, sight_of}
use Rattle.sql_meaning.specs.Windows.{told_apart}
use Rattle.sql_exec.specs.ItemCells.{values_in}
use Rattle.sql_exec.proofs.simple_items.item_cells.Given as goal

abbrev pub invariant-loop-i : goal.invariant-loop-i
invariant-loop-i l =
    let s = l.rows.rows.now.sources in
    let rows = rows_for s l.rows.rows.now.tuples in
    map (values_in l.p rows) l.cells.items ≡ map (λ w. map (item_value (sight_of l.p s) rows w) (told_apart rows)) (take l.i (zip (map item_tree l.items) l.kinds))
