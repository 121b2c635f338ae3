use Rattle.std.proofs.Common.{◌<◌, ◌+◌, subst, ◌∙◌, arith}
use Rattle.vtl_frames.specs.Best.{cell_in}
use Rattle.vtl_frames.specs.Framed.{places_from}
use Rattle.vtl_frames.specs.Kept.{Keeps}
use Rattle.vtl_frames.proofs.PlaceLemmas.{many_places, places_above, places_front}
use Rattle.vtl_frames.proofs.kept.Kept.leave_up_to.Goals as goal

pub leave-requires-clause-keeps : goal.leave-requires-clause-keeps
leave-requires-clause-keeps g c =
    let at = cell_in (g.P.Partition.cells c.args.cells.now) in
    let i = c.loop-place.place in
    let b = c.args.from.end in
    let before : i < b = omega (arith, c.requires.order, c.loop-place-test.true) in
    (places_from (i + 1) b, subst (λ ks. Keeps at ks c.loop-place.self) (places_front i b before) c.loop-place.invariant.keeps, omega (arith, many_places (i + 1) b, before, c.requires.within, c.requires.few))

pub loop-place-preserved : goal.loop-place-preserved
loop-place-preserved g c =
    let at = cell_in (g.P.Partition.cells c.args.cells.now) in
    let i = c.loop-place.place in
    let b = c.args.from.end in
    let before : i < b = omega (arith, c.requires.order, c.loop-place-test.true) in
    record {
      kind = c.leave.ensures.kind ∙ c.loop-place.invariant.kind;
      keeps = c.leave.ensures.keeps (places_from (i + 1) b) (places_above i b) (subst (λ ks. Keeps at ks c.loop-place.self) (places_front i b before) c.loop-place.invariant.keeps);
    }
