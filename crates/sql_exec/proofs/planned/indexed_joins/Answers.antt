use Rattle.std.proofs.Common.{◌≡◌, ap, arith, length}
use Rattle.sql_meaning.specs.declared.plan.Indexed.{Indexed}
use Rattle.sql_exec.proofs.PlannedLists.{entry_kept}
use Rattle.sql_exec.proofs.planned.indexed_joins.Goals as goal

pub loop-entry-preserved : goal.loop-entry-preserved
loop-entry-preserved c =
    let joins = c.loop-entry.joins in
    let now = c.put_at.new.lists in
    let same = c.deref_mut.ensures.value in
    let long : length now ≡ joins.len = omega (arith, ap length same, joins.ok.0, c.put_at.auto.lists) in
    let none : Indexed = record { select = 0; join = 0 } in
    let kept = entry_kept (λ (e : Indexed). e.select) (λ (e : Indexed). e.join) c.indexed-indexed.result.now c.loop-entry.entry-index none c.args.count joins c.deref_mut.result.now now
    c.loop-entry-test.true same long c.loop-entry.invariant.many c.loop-entry.invariant.lists c.in_ok-put_at.ensures in
    record { many = kept.0; lists = kept.1 }
