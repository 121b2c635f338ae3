use Rattle.std.proofs.Common.{◌≡◌, length, sym, ap, subst, ◌∙◌, arith}
use Rattle.vtl_cell.specs.Groups.{values_of}
use Rattle.vtl_frames.specs.Best.{cell_in}
use Rattle.vtl_frames.specs.Framed.{places_from}
use Rattle.vtl_frames.specs.Kept.{HasTotals}
use Rattle.vtl_frames.specs.Totals.{totals_of}
use Rattle.vtl_frames.proofs.KeptLemmas.{has_joined}
use Rattle.vtl_frames.proofs.PlaceLemmas.{all_cells, many_places, places_more}
use Rattle.vtl_frames.proofs.TotalLemmas.{roomy, total_is}
use Rattle.vtl_frames.proofs.ratios.total_of.Goals as goal

pub enter-requires : goal.enter-requires
enter-requires g c =
    let at = cell_in (g.P.Partition.cells c.args.cells.now) in
    let i = c.loop-place.place in
    roomy at (places_from 0 i) c.loop-place.totals c.loop-place.invariant (omega (arith, many_places 0 i, c.loop-place-test.true, c.len-place-end.ensures.few))

pub loop-place-preserved : goal.loop-place-preserved
loop-place-preserved g c =
    let at = cell_in (g.P.Partition.cells c.args.cells.now) in
    let i = c.loop-place.place in
    subst (λ ks. HasTotals at ks c.enter.new.self) (sym (places_more 0 i (omega arith)))
    (has_joined at (places_from 0 i) i c.loop-place.totals c.enter.new.self c.cell.result.now c.loop-place.invariant c.enter.ensures.value c.cell.ensures c.enter.ensures.small)

pub total-requires : goal.total-requires
total-requires g c =
    let at = cell_in (g.P.Partition.cells c.args.cells.now) in
    let i = c.loop-place.place in
    roomy at (places_from 0 i) c.loop-place.totals c.loop-place.invariant (omega (arith, many_places 0 i, c.loop-place.auto.place-end, c.len-place-end.ensures.few))

pub returns : goal.returns
returns g c =
    let cells = g.P.Partition.cells c.args.cells.now in
    let i = c.loop-place.place in
    let all : i ≡ length cells = omega (arith, c.loop-place-test.false, c.loop-place.auto.place-end, c.len-place-end.ensures.count) in
    c.total.ensures ∙ total_is c.args.p.now c.loop-place.totals cells (c.loop-place.invariant.totals ∙ ap (λ l. totals_of (values_of l)) (all_cells cells i all))
