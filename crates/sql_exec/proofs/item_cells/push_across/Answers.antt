use Rattle.std.proofs.Common.{◌<◌, ◌≤◌, ◌++◌, length, get_or, ap, sym, ◌∙◌, append-nil, arith}
use Rattle.std.proofs.lemmas.List.{get_or_default, take_all}
use Rattle.vtl_cell.specs.Outcome.{fault_in, join}
use Rattle.sql_meaning.specs.Outcomes.{cell_or_null, row_at, row_fault}
use Rattle.vtl_scalar.specs.Seen.{seen_of}
use Rattle.sql_meaning.proofs.UpToOrder.{join_none}
use Rattle.sql_exec.specs.ItemCells.{next_value}
use Rattle.sql_exec.proofs.ItemWalks.{across_all, across_next, across_none, here}
use Rattle.sql_exec.proofs.Steps.{mapped_more, seen_more}
use Rattle.sql_exec.proofs.item_cells.push_across.Goals as goal

pub loop-item-init : goal.loop-item-init
loop-item-init c = record {
  across = across_none c.args.p.now c.args.row.now c.args.items.now;
  cells = sym (append-nil c.args.cells.now.items);
  seen = sym (join_none (seen_of c.args.seen));
}

pub loop-item-preserved : goal.loop-item-preserved
loop-item-preserved c =
    let p = c.args.p.now in
    let r = c.args.row.now in
    let i = c.loop-item.item-index in
    let old = c.args.items.now in
    let now = c.loop-item.items in
    let x = get_or now i c.item-item.result in
    let l : i < length now = omega (arith, c.loop-item-test.true, c.loop-item.auto.items) in
    let h : i < length old = omega (arith, c.loop-item-test.true, c.loop-item.auto.items) in
    let was = c.loop-item.invariant.across in
    let is = get_or_default now i c.item-item.result x l in
    let at = here p r i old now x x h l is was in
    record {
      across = across_next p r i old now x c.push_next.new.item h l is was c.push_next.ensures.others;
      cells = mapped_more (λ y. cell_or_null (next_value p y r)) old i x c.args.cells.now.items c.loop-item.cells.items c.push_next.new.cells.items h at c.loop-item.invariant.cells c.in_ok-with_these.ensures.cells;
      seen = seen_more (λ y. fault_in (next_value p y r)) old i x (seen_of c.args.seen) (seen_of c.loop-item.with_these) (seen_of c.in_ok-with_these.with_these) h at c.loop-item.invariant.seen c.in_ok-with_these.ensures.seen;
    }

pub returns-clause-cells : goal.returns-clause-cells
returns-clause-cells c =
    let old = c.args.items.now in
    let past : length old ≤ c.loop-item.item-index = omega (arith, c.loop-item-test.false, c.loop-item.auto.items) in
    c.loop-item.invariant.cells ∙ ap (λ l. c.args.cells.now.items ++ row_at (next_value c.args.p.now) l c.args.row.now) (take_all c.loop-item.item-index old past)

pub returns-clause-seen : goal.returns-clause-seen
returns-clause-seen c =
    let old = c.args.items.now in
    let past : length old ≤ c.loop-item.item-index = omega (arith, c.loop-item-test.false, c.loop-item.auto.items) in
    c.loop-item.invariant.seen ∙ ap (λ l. join (seen_of c.args.seen) (row_fault (next_value c.args.p.now) l c.args.row.now)) (take_all c.loop-item.item-index old past)

pub returns-clause-others : goal.returns-clause-others
returns-clause-others c =
    let old = c.args.items.now in
    let now = c.loop-item.items in
    let i = c.loop-item.item-index in
    let past : length old ≤ i = omega (arith, c.loop-item-test.false, c.loop-item.auto.items) in
    let ends : length now ≤ i = omega (arith, c.loop-item-test.false, c.loop-item.auto.items) in
    across_all c.args.p.now c.args.row.now i old now past ends c.loop-item.invariant.across
