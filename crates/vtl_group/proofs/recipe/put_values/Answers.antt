use Rattle.std.proofs.Common.{◌∙◌}
use Rattle.vtl_scalar.specs.Seen.{seen_of}
use Rattle.vtl_group.specs.Calls.{call_value, rows_at}
use Rattle.vtl_group.specs.declared.calls.Call.{Call}
use Rattle.vtl_cell.specs.Outcome.{Outcome}
use Rattle.vtl_cell.specs.declared.cell.Cell.{Cell}
use Rattle.vtl_expr.proofs.ValueWalks.{cells_more, seen_more}
use Rattle.vtl_group.proofs.recipe.put_values.Goals as goal

pub loop-call-preserved : goal.loop-call-preserved
loop-call-preserved c =
    let f : Call → Outcome Cell = λ a. call_value c.args.p.now a (rows_at c.args.table.now.rows c.args.numbers.now) in
    let calls = c.args.calls.now in
    let i = c.loop-call.call-index in
    let old = c.args.points.now in
    let before = c.loop-call.points in
    let then = c.put.new.self in
    record {
      table = c.put.ensures.table ∙ c.loop-call.invariant.table;
      cells = cells_more f calls i _ c.loop-call-test.true old.cells.items before.cells.items then.cells.items c.loop-call.invariant.cells (c.in_ok-put.ensures.cells _ c.call_value.ensures);
      seen = seen_more f calls i _ c.loop-call-test.true (seen_of old.seen) (seen_of before.seen) (seen_of then.seen) c.loop-call.invariant.seen (c.in_ok-put.ensures.seen _ c.call_value.ensures);
    }
