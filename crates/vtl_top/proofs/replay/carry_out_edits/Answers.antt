use Rattle.std.proofs.Common.{◌∙◌, ◌≤◌, ◌+◌, drop, length, map, Err, Ok, arith, sym, subst}
use Rattle.std.proofs.lemmas.List.{drop_all}
use Rattle.vtl_check.specs.Checked.{TypedScript}
use Rattle.vtl_top.specs.Answered.{Takes}
use Rattle.vtl_top.specs.EditsView.{edit_view, script_at, stage_view}
use Rattle.vtl_top.specs.Informed.{typed_view}
use Rattle.vtl_top.specs.Replayed.{edited_step, replayed_step}
use Rattle.vtl_top.proofs.ReplaySteps.{edits_ended, edits_here, edits_onward, edits_stopped}
use Rattle.vtl_top.proofs.replay.carry_out_edits.Goals as goal

pub returns-in-Err-clause-takes : goal.returns-in-Err-clause-takes
returns-in-Err-clause-takes g c =
    let t = typed_view (script_at c.args.stage.now) in
    let s = stage_view c.loop-edit.stage in
    let i = c.loop-edit.edit-index in
    let edits = c.args.edits.now in
    let item = c.edit-item.result in
    let last = stage_view c.carry_out_edit.new.stage in
    let here = edits_here edits i item c.loop-edit-test.true c.edit-item.is in
    let first = subst (λ (x : TypedScript). Takes g.F.Files c.loop-edit.files c.carry_out_edit.new.files (edited_step (typed_view x) s (edit_view item)) (λ (u : Unit {0}). last) (Err c.in-Err.status)) c.loop-edit.invariant.script c.in-Err.ensures.takes in
    c.loop-edit.invariant.takes c.carry_out_edit.new.files (Err c.in-Err.status) last
    (subst (λ es. Takes g.F.Files c.loop-edit.files c.carry_out_edit.new.files (replayed_step t s es) (λ (u : Unit {0}). last) (Err c.in-Err.status)) (sym here)
    (edits_stopped g.F.Files t s last last (edit_view item) (map edit_view (drop (i + 1) edits)) c.loop-edit.files c.carry_out_edit.new.files c.in-Err.status first))

pub loop-edit-preserved : goal.loop-edit-preserved
loop-edit-preserved g c =
    let t = typed_view (script_at c.args.stage.now) in
    let s = stage_view c.loop-edit.stage in
    let i = c.loop-edit.edit-index in
    let edits = c.args.edits.now in
    let item = c.edit-item.result in
    let next = stage_view c.carry_out_edit.new.stage in
    let here = edits_here edits i item c.loop-edit-test.true c.edit-item.is in
    let first = subst (λ (x : TypedScript). Takes g.F.Files c.loop-edit.files c.carry_out_edit.new.files (edited_step (typed_view x) s (edit_view item)) (λ (u : Unit {0}). next) (Ok tt)) c.loop-edit.invariant.script c.in-Ok.ensures.takes in
    record {
      script = c.carry_out_edit.ensures.script ∙ c.loop-edit.invariant.script;
      ended = c.in-Ok.ensures.ended;
      takes = λ now result last rest.
          c.loop-edit.invariant.takes now result last
          (subst (λ es. Takes g.F.Files c.loop-edit.files now (replayed_step t s es) (λ (u : Unit {0}). last) result) (sym here)
          (edits_onward g.F.Files t s next last (edit_view item) (map edit_view (drop (i + 1) edits)) c.loop-edit.files c.carry_out_edit.new.files now tt result first rest));
    }

pub returns-clause-takes : goal.returns-clause-takes
returns-clause-takes g c =
    let t = typed_view (script_at c.args.stage.now) in
    let s = stage_view c.loop-edit.stage in
    let edits = c.args.edits.now in
    let ended : length edits ≤ c.loop-edit.edit-index = omega (arith, c.loop-edit-test.false) in
    c.loop-edit.invariant.takes c.loop-edit.files (Ok tt) s
    (subst (λ es. Takes g.F.Files c.loop-edit.files c.loop-edit.files (replayed_step t s (map edit_view es)) (λ (u : Unit {0}). s) (Ok tt)) (sym (drop_all c.loop-edit.edit-index edits ended)) (edits_ended g.F.Files t s c.loop-edit.files tt))
