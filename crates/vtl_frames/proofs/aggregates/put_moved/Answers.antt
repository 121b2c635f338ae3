use Rattle.std.proofs.Common.{◌≡◌, ◌≤◌, ℕ, length, refl, sym, ap, ◌∙◌, arith, append-nil}
use Rattle.vtl_cell.specs.Groups.{group_value}
use Rattle.vtl_cell.specs.Outcome.{Outcome}
use Rattle.vtl_cell.specs.declared.cell.Cell.{Cell}
use Rattle.vtl_frames.specs.Best.{cell_in}
use Rattle.vtl_frames.specs.Framed.{cells_at, end_of, framed, places_from, start_of}
use Rattle.vtl_frames.proofs.PlaceLemmas.{behind_first, behind_next, each_more, end_within, framed_at, many_places, places_within}
use Rattle.vtl_frames.proofs.aggregates.put_moved.Goals as goal

pub loop-place-init : goal.loop-place-init
loop-place-init g c =
    let cells = g.P.Partition.cells c.args.cells.now in
    record {
      kind = c.new-kept.ensures.kind;
      keeps = c.new-kept.ensures.keeps (cell_in cells);
      behind = behind_first c.args.frame (length cells) (record { start = 0; end = 0 }) refl refl;
      values = sym (append-nil c.args.out.now.items);
    }

pub value-requires : goal.value-requires
value-requires g c =
    let cells = g.P.Partition.cells c.args.cells.now in
    let n = c.len-count.result in
    let a = c.cut-next.result.start in
    let b = c.cut-next.result.end in
    let within : b ≤ length cells = omega (arith, c.cut-next.ensures.end, end_within c.args.frame n c.loop-place.place, c.len-count.ensures.count) in
    (places_from a b, c.in_ok-move_up.ensures.keeps, places_within cells a b within, omega (arith, many_places a b, within, c.len-count.ensures.count, c.len-count.ensures.few))

pub loop-place-preserved : goal.loop-place-preserved
loop-place-preserved g c =
    let cells = g.P.Partition.cells c.args.cells.now in
    let p = c.args.p.now in
    let f = c.args.frame in
    let i = c.loop-place.place in
    let at = c.cut-next.result in
    let ks = places_from at.start at.end in
    let count = c.len-count.ensures.count in
    let start : at.start ≡ start_of f (length cells) i = c.cut-next.ensures.start ∙ ap (λ n. start_of f n i) count in
    let end : at.end ≡ end_of f (length cells) i = c.cut-next.ensures.end ∙ ap (λ n. end_of f n i) count in
    let kind = c.move_up.ensures.kind ∙ c.loop-place.invariant.kind in
    let value = c.in_ok-value.ensures ks c.in_ok-move_up.ensures.keeps ∙ ap (λ k. group_value p k (cells_at cells ks)) kind ∙ ap (group_value p c.args.kind) (framed_at f cells at i start end) in
    let each : ℕ → Outcome Cell = λ j. group_value p c.args.kind (framed f j cells) in
    record {
      kind = kind;
      keeps = c.in_ok-move_up.ensures.keeps;
      behind = behind_next f (length cells) at i start end;
      values = c.in_ok-push.ensures.items ∙ each_more each i c.args.out.now.items c.loop-place.out.items c.in_ok-value.field-0 c.loop-place.invariant.values value;
    }
