use Rattle.std.proofs.Common.{[], ◌∷◌, ◌++◌, ap, sym, ◌∙◌}
use Rattle.std.proofs.lemmas.Map.Keys.{le_from_not_gt}
use Rattle.std.proofs.lemmas.Option.{slice_get_within}
use Rattle.check_rules.proofs.Runs.{holds_none, next_is, next_none, not_at}
use Rattle.check_rules.proofs.run.Run.step.Goals as goal

pub finish-requires-clause-within : goal.finish-requires-clause-within
finish-requires-clause-within c =
    let f = c.requires.running.are_ready c.in-Some.place c.in-Some.ensures.member in
    slice_get_within c.args.rules.now c.in-Some.place f.0 f.1

pub finish-requires-clause-ready : goal.finish-requires-clause-ready
finish-requires-clause-ready c =
    (c.args.self.now.ready, c.requires.running, c.in-Some.ensures.member, c.in-Some.ensures.updates.1, λ q other. c.in-Some.ensures.updates.2 q (not_at c.in-Some.place q other))

pub returns-in_ok-finish-in-Some-clause-step : goal.returns-in_ok-finish-in-Some-clause-step
returns-in_ok-finish-in-Some-clause-step c =
    let self = c.args.self.now in
    let n = next_is c.args.rules.now self.order.items self.awaited self.free.items self.ready c.requires.running c.in-Some.place c.in-Some.ensures.member (λ q there. le_from_not_gt c.in-Some.place q (c.in-Some.ensures.least q there)) in
    (n.0, n.1, c.in_ok-finish-in-Some.ensures.order ∙ ap (λ m. self.order.items ++ m ∷ []) (sym n.2))

pub returns-in-None-clause-step : goal.returns-in-None-clause-step
returns-in-None-clause-step c =
    let self = c.args.self.now in
    next_none c.args.rules.now self.order.items self.awaited self.free.items self.ready c.requires.running (holds_none self.ready c.in-None.ensures.variant.1)
