use Rattle.std.proofs.Common.{◌∙◌, [], ap, arith, cond, sym}
use Rattle.vtl_rerun.specs.Operands.{held_at, with_table, written_behind}
use Rattle.vtl_rerun.proofs.Turns.{written_on}
use Rattle.vtl_rerun.proofs.written.written.Goals as goal
use Rattle.vtl_rerun.proofs.written.written.Goals.{then-part+in_ok-put, else-part}

pub loop-place-preserved : goal.loop-place-preserved
loop-place-preserved c =
    let x = c.index-parts-place.result in
    let i = c.loop-place.place in
    let before = c.loop-place.outputs in
    elim c.if-part.branch [
      | then-part+in_ok-put w ↦ written_on i before c.if-part.outputs (written_behind [] c.args.parts.now c.args.results.now) c.args.parts.now c.args.results.now x (omega arith) (omega (arith, c.requires)) c.index-parts-place.is
          (w.outputs-is ∙ w.in_ok-put.ensures ∙ ap (with_table before x.name) w.held.ensures ∙ sym (ap (λ b. cond b (with_table before x.name (held_at c.args.results.now i)) before) w.if-part.true)) c.loop-place.invariant
      | else-part w ↦ written_on i before c.if-part.outputs (written_behind [] c.args.parts.now c.args.results.now) c.args.parts.now c.args.results.now x (omega arith) (omega (arith, c.requires)) c.index-parts-place.is
          (w.outputs-is ∙ sym (ap (λ b. cond b (with_table before x.name (held_at c.args.results.now i)) before) w.if-part.false)) c.loop-place.invariant
    ]
