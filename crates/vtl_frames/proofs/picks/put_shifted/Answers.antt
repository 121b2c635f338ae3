use Rattle.std.proofs.Common.{◌<◌, ℕ, length, ap, ◌∙◌, Ok, arith}
use Rattle.vtl_cell.specs.Outcome.{Outcome}
use Rattle.vtl_cell.specs.declared.cell.Cell.{Cell}
use Rattle.vtl_frames.specs.Picks.{cell_or, place_away, shifted}
use Rattle.vtl_frames.proofs.PickLemmas.{shifted_is}
use Rattle.vtl_frames.proofs.PlaceLemmas.{each_more}
use Rattle.vtl_frames.proofs.picks.put_shifted.Goals as goal

pub loop-place-preserved : goal.loop-place-preserved
loop-place-preserved g c =
    let cells = g.P.Partition.cells c.args.cells.now in
    let i = c.loop-place.place in
    let s = c.args.shift in
    let distance = c.args.distance in
    let default = c.args.default.now in
    let within : i < length cells = omega (arith, c.loop-place-test.true, c.len-count.ensures.count) in
    let value =
    c.in_ok-cell_or.ensures ∙ ap (cell_or default cells) (c.shifted_place-away.ensures ∙ ap (λ n. place_away s distance n i) c.len-count.ensures.count)
    ∙ shifted_is s distance default i cells within in
    let each : ℕ → Outcome Cell = λ j. Ok (shifted s distance default j cells) in
    c.in_ok-push.ensures.items ∙ each_more each i c.args.out.now.items c.loop-place.out.items (Ok c.in_ok-cell_or.field-0) c.loop-place.invariant (ap Ok value)
