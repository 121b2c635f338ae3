use Rattle.std.proofs.Common.{◌≡◌, ◌++◌, map, take}
use Rattle.vtl_cell.specs.Outcome.{fault_in, faults_by, join}
use Rattle.sql_meaning.specs.Outcomes.{cell_or_null}
use Rattle.sql_groups.specs.Items.{item_at}
use Rattle.vtl_scalar.specs.Seen.{seen_of}
use Rattle.sql_groups.proofs.items.push_items.Given as goal

abbrev pub invariant-loop-item : goal.invariant-loop-item
invariant-loop-item g l = record {
  cells : l.cells.items ≡ l.fn.cells.items ++ map (λ i. cell_or_null (item_at l.p (g.R.Cells.tables l.at) (g.R.Cells.cells l.at) (g.R.Cells.group l.at) i)) (take l.item-index l.items);
  seen : seen_of l.with_these ≡ join (seen_of l.fn.seen) (faults_by (λ i. fault_in (item_at l.p (g.R.Cells.tables l.at) (g.R.Cells.cells l.at) (g.R.Cells.group l.at) i)) (take l.item-index l.items));
}
