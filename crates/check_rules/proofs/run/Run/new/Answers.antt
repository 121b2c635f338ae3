use Rattle.std.proofs.Common.{[], map, sym, subst}
use Rattle.check_rules.specs.Order.{left_behind}
use Rattle.check_rules.specs.Running.{IsRunning}
use Rattle.check_rules.proofs.Runs.{starts}
use Rattle.check_rules.proofs.run.Run.new.Goals as goal

pub returns-clause-running : goal.returns-clause-running
returns-clause-running c =
    subst (λ done. IsRunning c.args.rules.now done (map (λ x. x.0) (left_behind c.args.rules.now [])) c.in_ok-awaited.awaited c.in_ok-free.free.items c.new-ready.result) (sym c.new-order.ensures.items)
    (starts c.args.rules.now c.in_ok-awaited.awaited c.in_ok-free.free.items c.new-ready.result c.in_ok-awaited.ensures (c.in_ok-free.ensures.items_if_clones_equal (λ y e. e)) c.new-ready.ensures.empty)
