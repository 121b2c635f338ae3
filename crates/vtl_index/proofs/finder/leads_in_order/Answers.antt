use Rattle.std.proofs.Common.{replicate, ◌<◌, ◌∙◌, ap, arith, get_or, length, subst, sym}
use Rattle.vtl_cell.specs.Row.{same_row}
use Rattle.vtl_index.specs.FirstRows.{IsFirst}
use Rattle.vtl_index.specs.RowKeys.{count_in, key_at, keys_in}
use Rattle.vtl_index.proofs.KeyOrder.{within}
use Rattle.vtl_index.proofs.LeadWalk.{all_walked, new_lead, none_walked, one_walked, same_lead}
use Rattle.vtl_index.proofs.finder.leads_in_order.Goals as goal
use Rattle.vtl_index.proofs.finder.leads_in_order.Goals.{then-not-has, else-not-has}

pub loop-row-init : goal.loop-row-init
loop-row-init c =
    none_walked (keys_in c.args.keyed.now) (count_in c.args.keyed.now) c.args.order.now c.in_ok-leads.leads.items
    (c.in_ok-leads.ensures.items_if_clones_equal (λ y e. e) ∙ ap (λ n. replicate n 0) c.len.ensures)

pub index_mut-requires : goal.index_mut-requires
index_mut-requires c =
    let inside = within (keys_in c.args.keyed.now) (count_in c.args.keyed.now) c.args.order.now c.requires c.loop-row.row-index (omega arith) in
    let count = c.loop-row.invariant.count in
    let long = c.loop-row.leads.ok in
    omega (arith, inside, count, long.0)

pub loop-row-preserved : goal.loop-row-preserved
loop-row-preserved c =
    let keys = keys_in c.args.keyed.now in
    let n = count_in c.args.keyed.now in
    let order = c.args.order.now in
    let place = c.loop-row.row-index in
    let lead = c.loop-row.lead in
    let leads = c.loop-row.leads.items in
    let h : c.loop-row.row-index < length c.args.order.now = omega arith in
    let asked = c.has.ensures ∙ ap (same_row (keys lead)) c.key.ensures in
    one_walked keys n order c.requires place lead leads h c.loop-row.invariant c.if-not-has.lead
    (elim c.if-not-has.branch [
      | then-not-has w ↦ subst (IsFirst keys n (keys (get_or order place 0))) (sym w.lead-is) (new_lead keys n order c.requires place lead leads h c.loop-row.invariant (sym asked ∙ w.if-not-has.true))
      | else-not-has w ↦ subst (IsFirst keys n (keys (get_or order place 0))) (sym w.lead-is) (same_lead keys n order c.requires place lead leads h c.loop-row.invariant (sym asked ∙ w.if-not-has.false))
    ])

pub returns : goal.returns
returns c =
    let keyed = c.args.keyed.now in
    all_walked (key_at keyed.p.now keyed.columns.now) keyed.table.now.rows c.args.order.now c.requires c.loop-row.row-index c.loop-row.lead c.loop-row.leads.items (omega arith) c.loop-row.invariant
