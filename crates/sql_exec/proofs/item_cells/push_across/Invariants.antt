use Rattle.std.proofs.Common.{◌≡◌, ◌++◌, take}
use Rattle.vtl_cell.specs.Outcome.{join}
use Rattle.sql_meaning.specs.Outcomes.{row_at, row_fault}
use Rattle.vtl_scalar.specs.Seen.{seen_of}
use Rattle.sql_exec.specs.ItemCells.{next_value}
use Rattle.sql_exec.proofs.ItemWalks.{IsAcross}
use Rattle.sql_exec.proofs.item_cells.push_across.Given as goal

abbrev pub invariant-loop-item : goal.invariant-loop-item
invariant-loop-item l =
    let first = take l.item-index l.fn.items in
    record {
      across : IsAcross l.p l.row l.item-index l.fn.items l.items;
      cells : l.cells.items ≡ l.fn.cells.items ++ row_at (next_value l.p) first l.row;
      seen : seen_of l.with_these ≡ join (seen_of l.fn.seen) (row_fault (next_value l.p) first l.row);
    }
