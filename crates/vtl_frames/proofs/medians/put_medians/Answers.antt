use Rattle.std.proofs.Common.{◌≡◌, ℕ, length, ap, ◌∙◌}
use Rattle.vtl_cell.specs.Groups.{group_value}
use Rattle.vtl_cell.specs.Outcome.{Outcome}
use Rattle.vtl_cell.specs.declared.cell.Cell.{Cell}
use Rattle.vtl_cell.specs.declared.operator.AggKind.TheVariants.{Median}
use Rattle.vtl_frames.specs.Framed.{end_of, framed, start_of}
use Rattle.vtl_frames.proofs.PlaceLemmas.{each_more, framed_at}
use Rattle.vtl_frames.proofs.medians.put_medians.Goals as goal

pub loop-place-preserved : goal.loop-place-preserved
loop-place-preserved g c =
    let cells = g.P.Partition.cells c.args.cells.now in
    let p = c.args.p.now in
    let f = c.args.frame in
    let i = c.loop-place.place in
    let at = c.cut.result in
    let count = c.len-count.ensures.count in
    let start : at.start ≡ start_of f (length cells) i = c.cut.ensures.start ∙ ap (λ n. start_of f n i) count in
    let end : at.end ≡ end_of f (length cells) i = c.cut.ensures.end ∙ ap (λ n. end_of f n i) count in
    let value = c.in_ok-median_of.ensures ∙ ap (group_value p Median) (framed_at f cells at i start end) in
    let each : ℕ → Outcome Cell = λ j. group_value p Median (framed f j cells) in
    c.in_ok-push.ensures.items ∙ each_more each i c.args.out.now.items c.loop-place.out.items c.in_ok-median_of.field-0 c.loop-place.invariant value
