use Rattle.std.proofs.Common.{map, take}
use Rattle.std.specs.Prelude.{zip}
use Rattle.sql_tree.specs.View.{item_tree}
use Rattle.sql_meaning.specs.Outcomes.{row_at, row_fault}
use Rattle.sql_meaning.specs.Selects.{appended, item_value}
use Rattle.sql_from.specs.Standing.{rows_for, sight_of}
use Rattle.sql_meaning.specs.Windows.{told_apart}
use Rattle.sql_exec.specs.Outputs.{Adds}
use Rattle.sql_exec.proofs.PlainRows.{one_row}
use Rattle.sql_exec.proofs.selects.add_rows.Given as goal

abbrev pub invariant-loop-number : goal.invariant-loop-number
invariant-loop-number g l =
    let rows = rows_for l.rows.sources l.rows.tuples in
    let at = item_value (sight_of l.p l.rows.sources) rows in
    let wanted = zip (map item_tree l.items) l.kinds in
    Adds (appended (map (one_row (row_fault at wanted) (row_at at wanted)) (take l.number (told_apart rows)))) l.fn.out l.out
