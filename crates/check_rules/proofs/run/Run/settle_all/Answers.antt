use Rattle.std.proofs.Common.{◌<◌, ◌+◌, drop, length, arith, subst, ◌∙◌}
use Rattle.std.proofs.lemmas.List.{drop_all, drop_more}
use Rattle.check_rules.specs.Running.{Runs}
use Rattle.check_rules.proofs.Runs.{head_within}
use Rattle.check_rules.proofs.run.Run.settle_all.Goals as goal

pub settle-requires-clause-within : goal.settle-requires-clause-within
settle-requires-clause-within c =
    let self = c.loop-i.self in
    let inside : c.loop-i.i < length c.args.places.now = omega arith in
    head_within c.args.rules.now c.args.places.now c.loop-i.i self.order.items self.awaited self.free.items self.ready inside c.loop-i.invariant.running

pub settle-requires-clause-many : goal.settle-requires-clause-many
settle-requires-clause-many c = c.loop-i.invariant.running.many

pub loop-i-preserved : goal.loop-i-preserved
loop-i-preserved c =
    let inside : c.loop-i.i < length c.args.places.now = omega arith in
    record {
      running = c.in_ok-settle.ensures.running (drop (c.loop-i.i + 1) c.args.places.now) (subst (λ l. Runs c.args.rules.now l c.loop-i.self) (drop_more c.args.places.now c.loop-i.i 0 inside) c.loop-i.invariant.running);
      order = c.in_ok-settle.ensures.order ∙ c.loop-i.invariant.order;
    }

pub returns-clause-running : goal.returns-clause-running
returns-clause-running c = subst (λ l. Runs c.args.rules.now l c.loop-i.self) (drop_all c.loop-i.i c.args.places.now (omega arith)) c.loop-i.invariant.running
