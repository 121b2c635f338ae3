use Rattle.std.proofs.Common.{◌+◌, ◌-◌, ◌++◌, ap, sym, ◌∙◌}
use Rattle.vtl_lineage.specs.Numbers.{run}
use Rattle.vtl_lineage.proofs.ByPlace.{run_step}
use Rattle.vtl_lineage.proofs.inputs.run.Goals as goal

pub loop-i-preserved : goal.loop-i-preserved
loop-i-preserved c =
    ap (λ l. l ++ run (c.args.first + (c.loop-i.i + 1)) (c.args.count - (c.loop-i.i + 1))) c.in_ok-push.ensures.items
    ∙ sym (run_step c.loop-i.numbers.items c.args.first c.args.count c.loop-i.i c.loop-i-test.true) ∙ c.loop-i.invariant
