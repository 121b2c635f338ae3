use Rattle.vtl_pages.proofs.Leaves.{next_empty, over}
use Rattle.std.proofs.Common.{◌∙◌}
use Rattle.vtl_pages.proofs.leaving.Leaving.release.Goals as goal

pub loop-block-init : goal.loop-block-init
loop-block-init g c =
    record { sized = c.self.invariant.sized; empty = over c.self.invariant (c.self.view_is ∙ c.requires) }

pub release-requires : goal.release-requires
release-requires g c =
    let l = c.loop-block in
    (next_empty l.blocks.items c.pop.new.self.items c.in-Some.block l.count c.self.inside.step l.invariant.empty.0 c.in-Some.ensures.items l.invariant.sized l.invariant.empty.1).0

pub loop-block-preserved : goal.loop-block-preserved
loop-block-preserved g c =
    let l = c.loop-block in
    let rest = (next_empty l.blocks.items c.pop.new.self.items c.in-Some.block l.count c.self.inside.step l.invariant.empty.0 c.in-Some.ensures.items l.invariant.sized l.invariant.empty.1).1 in
    record { sized = rest.0; empty = rest.1 }
