use Rattle.std.proofs.Common.{map, take}
use Rattle.std.specs.Prelude.{zip}
use Rattle.sql_tree.specs.View.{item_tree}
use Rattle.sql_meaning.specs.Outcomes.{row_at, row_fault}
use Rattle.sql_meaning.specs.Selects.{appended, item_value}
use Rattle.sql_from.specs.Standing.{rows_for, sight_of}
use Rattle.sql_meaning.specs.Windows.{told_apart}
use Rattle.sql_exec.specs.Outputs.{Adds}
use Rattle.sql_exec.proofs.PlainRows.{one_row}
use Rattle.sql_exec.proofs.SimpleRows.{Left}
use Rattle.sql_exec.proofs.simple_items.add_simple.Given as goal

abbrev pub invariant-loop-number : goal.invariant-loop-number
invariant-loop-number l =
    let v = sight_of l.p l.fn.rows.sources in
    let rows = rows_for l.fn.rows.sources l.fn.rows.tuples in
    let wanted = zip (map item_tree l.items) l.kinds in
    record {
      adds : Adds (appended (map (one_row (row_fault (item_value v rows) wanted) (row_at (item_value v rows) wanted)) (take l.number (told_apart rows)))) l.fn.out l.out;
      left : Left l.p v rows wanted l.number l.cells.items;
    }
