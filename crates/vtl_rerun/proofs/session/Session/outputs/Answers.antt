use Rattle.std.proofs.Common.{Some, subst}
use Rattle.vtl_rerun.specs.Kept.{Kept, Lends}
use Rattle.vtl_rerun.proofs.States.{lent_now}
use Rattle.vtl_rerun.proofs.session.Session.outputs.Goals as goal

pub returns-then-self : goal.returns-then-self
returns-then-self g c =
    let is = c.self.inside in
    let lent = lent_now is.script is.parts.items is.inputs is.outputs is.results.items is.is_current c.self.invariant c.if-self.true in
    subst (λ (k : Kept). Lends k (Some c.self.inside.outputs)) c.self.view_is (c.if-self.true, lent.0, lent.1)
