use Rattle.std.proofs.Common.{ℕ, ap, ◌∙◌}
use Rattle.vtl_cell.specs.Groups.{ratio_of}
use Rattle.vtl_cell.specs.Outcome.{Outcome}
use Rattle.vtl_cell.specs.Row.{column_of}
use Rattle.vtl_cell.specs.declared.cell.Cell.{Cell}
use Rattle.vtl_frames.specs.Ratios.{ratio_to, total_number}
use Rattle.vtl_frames.proofs.PlaceLemmas.{each_more}
use Rattle.vtl_frames.proofs.ratios.put_ratios.Goals as goal

pub loop-place-preserved : goal.loop-place-preserved
loop-place-preserved g c =
    let cells = g.P.Partition.cells c.args.cells.now in
    let p = c.args.p.now in
    let i = c.loop-place.place in
    let value = c.ratio.ensures ∙ ap (λ t. ratio_to p t c.cell.result.now) c.total_of-total.ensures ∙ ap (ratio_to p (total_number p cells)) c.cell.ensures in
    let each : ℕ → Outcome Cell = λ j. ratio_of p (column_of j cells) cells in
    c.in_ok-push.ensures.items ∙ each_more each i c.args.out.now.items c.loop-place.out.items c.ratio.result c.loop-place.invariant value
