use Rattle.std.proofs.Common.{ℕ}
use Rattle.vtl_cell.specs.Outcome.{fault_in}
use Rattle.vtl_cell.specs.Row.{Row}
use Rattle.sql_meaning.specs.Outcomes.{cell_or_null}
use Rattle.vtl_scalar.specs.Seen.{seen_of}
use Rattle.sql_exec.specs.Items.{made_at_row}
use Rattle.sql_exec.proofs.Steps.{mapped_more, seen_more}
use Rattle.sql_exec.proofs.items.push_items.Goals as goal

pub loop-item-preserved : goal.loop-item-preserved
loop-item-preserved g c =
    let made = made_at_row c.args.p.now (g.R.Cells.tables c.args.at.now) in
    let r : Row × ℕ = (g.R.Cells.cells c.args.at.now, c.args.number) in
    let items = c.args.items.now in
    let i = c.loop-item.item-index in
    let item = c.item-item.result in
    record {
      cells = mapped_more (λ x. cell_or_null (made x r)) items i item c.args.cells.now.items c.loop-item.cells.items c.push_item.new.cells.items c.loop-item-test.true c.item-item.is c.loop-item.invariant.cells c.in_ok-with_these.ensures.cells;
      seen = seen_more (λ x. fault_in (made x r)) items i item (seen_of c.args.seen) (seen_of c.loop-item.with_these) (seen_of c.in_ok-with_these.with_these) c.loop-item-test.true c.item-item.is c.loop-item.invariant.seen c.in_ok-with_these.ensures.seen;
    }
