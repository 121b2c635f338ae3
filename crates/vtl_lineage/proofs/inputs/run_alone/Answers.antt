use Rattle.std.proofs.Common.{◌+◌, ◌-◌, ◌++◌, ◌∷◌, [], ap, sym, ◌∙◌}
use Rattle.vtl_lineage.specs.Numbers.{each_alone, run}
use Rattle.vtl_lineage.proofs.ByPlace.{alone_step}
use Rattle.vtl_lineage.proofs.inputs.run_alone.Goals as goal

pub loop-i-preserved : goal.loop-i-preserved
loop-i-preserved c =
    ap (λ l. l ++ each_alone (run (c.args.first + (c.loop-i.i + 1)) (c.args.count - (c.loop-i.i + 1)))) (c.in_ok-push.ensures.items ∙ ap (λ s. c.loop-i.sets.items ++ s ∷ []) c.in_ok-run_of_one.ensures)
    ∙ sym (alone_step c.loop-i.sets.items c.args.first c.args.count c.loop-i.i c.loop-i-test.true) ∙ c.loop-i.invariant
