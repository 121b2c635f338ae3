use Rattle.std.proofs.Common.{◌≡◌, ◌++◌, take}
use Rattle.vtl_cell.specs.Outcome.{join}
use Rattle.sql_meaning.specs.Outcomes.{row_at, row_fault}
use Rattle.vtl_scalar.specs.Seen.{seen_of}
use Rattle.sql_exec.specs.Items.{made_at_row}
use Rattle.sql_exec.proofs.items.push_items.Given as goal

abbrev pub invariant-loop-item : goal.invariant-loop-item
invariant-loop-item g l =
    let made = made_at_row l.p (g.R.Cells.tables l.at) in
    let first = take l.item-index l.items in
    record {
      cells : l.cells.items ≡ l.fn.cells.items ++ row_at made first (g.R.Cells.cells l.at, l.number);
      seen : seen_of l.with_these ≡ join (seen_of l.fn.seen) (row_fault made first (g.R.Cells.cells l.at, l.number));
    }
