use Rattle.std.proofs.Common.{◌≡◌, ◌+◌, ℕ, ap, arith, length, sym, take}
use Rattle.std.specs.Prelude.{◌==◌, filter}
use Rattle.std.proofs.lemmas.List.{map-id}
use Rattle.sql_meaning.specs.declared.plan.Early.{Early}
use Rattle.sql_exec.proofs.PlannedLists.{entry_kept, items_for, lists_as}
use Rattle.sql_exec.proofs.planned.early_parts.Goals as goal

pub loop-entry-preserved : goal.loop-entry-preserved
loop-entry-preserved c =
    let parts = c.loop-entry.parts in
    let now = c.put_at.new.lists in
    let same = c.deref_mut.ensures.value in
    let long : length now ≡ parts.len = omega (arith, ap length same, parts.ok.0, c.put_at.auto.lists) in
    let none : Early = record { select = 0; conjunct = 0; join = 0 } in
    let i = c.loop-entry.entry-index in
    let es = c.early-early.result.now in
    let place = λ (e : Early). e.select in
    let itself = λ (e : Early). e in
    let of = λ (m n : ℕ). filter (λ (e : Early). e.select == n) (take m es) in
    let before = lists_as (of i) (items_for place itself (take i es)) c.args.count parts.items (λ n. sym (map-id (of i n))) c.loop-entry.invariant.lists in
    let kept = entry_kept place itself es i none c.args.count parts c.deref_mut.result.now now c.loop-entry-test.true same long c.loop-entry.invariant.many before c.in_ok-put_at.ensures in
    record { many = kept.0; lists = lists_as (items_for place itself (take (i + 1) es)) (of (i + 1)) c.args.count _ (λ n. map-id (of (i + 1) n)) kept.1 }
