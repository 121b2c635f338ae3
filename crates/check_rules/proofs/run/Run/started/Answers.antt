use Rattle.std.proofs.Common.{sym, subst}
use Rattle.check_rules.specs.Running.{Runs}
use Rattle.check_rules.proofs.run.Run.started.Goals as goal

pub settle_all-requires : goal.settle_all-requires
settle_all-requires c = subst (λ places. Runs c.args.rules.now places c.in_ok-run.run') (sym c.requires) c.in_ok-run.ensures.running
