use Rattle.vtl_interp.proofs.combinations.joined.Goals as goal

pub step-requires : goal.step-requires
step-requires c = c.loop-i.invariant.kind
