use Rattle.vtl_expr.proofs.PreparedLemmas.{same_more}
use Rattle.vtl_expr.proofs.prepared.+preparing.Goals as goal

pub prepare_all-loop-e-preserved : goal.prepare_all-loop-e-preserved
prepare_all-loop-e-preserved t c =
    rw c.in_ok-push.ensures.items
    (same_more c.loop-e.all.items c.in_ok-prepare.field-0 c.args.exps.now c.loop-e.e-index c.e-item.result c.loop-e-test.true c.e-item.is c.loop-e.invariant c.in_ok-prepare.ensures)
