use Rattle.std.proofs.Common.{◌≤◌, length, sym, subst, ◌∙◌, arith}
use Rattle.vtl_frames.specs.Best.{cell_in}
use Rattle.vtl_frames.specs.Framed.{places_from}
use Rattle.vtl_frames.specs.Kept.{Keeps}
use Rattle.vtl_frames.proofs.PlaceLemmas.{many_places, places_more, places_within}
use Rattle.vtl_frames.proofs.kept.Kept.enter_up_to.Goals as goal

pub enter-requires-clause-keeps : goal.enter-requires-clause-keeps
enter-requires-clause-keeps g c =
    let cells = g.P.Partition.cells c.args.cells.now in
    let a = c.args.from.start in
    let i = c.loop-place.place in
    let within : i ≤ length cells = omega (arith, c.requires.within, c.loop-place-test.true) in
    (places_from a i, c.loop-place.invariant.keeps, places_within cells a i within, omega (arith, many_places a i, within, c.requires.few))

pub loop-place-preserved : goal.loop-place-preserved
loop-place-preserved g c =
    let at = cell_in (g.P.Partition.cells c.args.cells.now) in
    let a = c.args.from.start in
    let i = c.loop-place.place in
    let up : a ≤ i = omega (arith, c.requires.order, c.loop-place.auto.place) in
    record {
      kind = c.enter.ensures.kind ∙ c.loop-place.invariant.kind;
      keeps = subst (λ ks. Keeps at ks c.enter.new.self) (sym (places_more a i up)) (c.in_ok-enter.ensures.keeps (places_from a i) c.loop-place.invariant.keeps);
    }
