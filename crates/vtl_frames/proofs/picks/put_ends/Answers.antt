use Rattle.std.proofs.Common.{◌≡◌, ℕ, length, ap, ◌∙◌, Ok}
use Rattle.vtl_cell.specs.Outcome.{Outcome}
use Rattle.vtl_cell.specs.declared.cell.Cell.{Cell}
use Rattle.vtl_cell.specs.declared.cell.Cell.TheVariants as c-cell
use Rattle.vtl_frames.specs.Framed.{end_of, framed, start_of}
use Rattle.vtl_frames.specs.Picks.{cell_or, end_cell, end_place}
use Rattle.vtl_frames.proofs.PickLemmas.{end_cell_is}
use Rattle.vtl_frames.proofs.PlaceLemmas.{each_more}
use Rattle.vtl_frames.proofs.picks.put_ends.Goals as goal

pub loop-place-preserved : goal.loop-place-preserved
loop-place-preserved g c =
    let cells = g.P.Partition.cells c.args.cells.now in
    let f = c.args.frame in
    let i = c.loop-place.place in
    let at = c.cut.result in
    let count = c.len-count.ensures.count in
    let start : at.start ≡ start_of f (length cells) i = c.cut.ensures.start ∙ ap (λ n. start_of f n i) count in
    let end : at.end ≡ end_of f (length cells) i = c.cut.ensures.end ∙ ap (λ n. end_of f n i) count in
    let value =
    c.in_ok-cell_or.ensures ∙ ap (cell_or c-cell.Null cells) c.end_place-at.ensures
    ∙ ap (λ a. cell_or c-cell.Null cells (end_place c.args.end a at.end)) start ∙ ap (λ b. cell_or c-cell.Null cells (end_place c.args.end (start_of f (length cells) i) b)) end
    ∙ end_cell_is c.args.end f i cells in
    let each : ℕ → Outcome Cell = λ j. Ok (end_cell c.args.end (framed f j cells)) in
    c.in_ok-push.ensures.items ∙ each_more each i c.args.out.now.items c.loop-place.out.items (Ok c.in_ok-cell_or.field-0) c.loop-place.invariant (ap Ok value)
