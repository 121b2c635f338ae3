use Rattle.std.proofs.Common.{Err, Ok, subst}
use Rattle.vtl_check.specs.Checked.{TypedScript}
use Rattle.vtl_top.specs.Answered.{Takes}
use Rattle.vtl_top.specs.EditsView.{edit_view, script_at, stage_view}
use Rattle.vtl_top.specs.Expected.{dataset_step}
use Rattle.vtl_top.specs.Informed.{typed_view}
use Rattle.vtl_top.specs.InputsRead.{rows_in}
use Rattle.vtl_top.specs.Replayed.{edit_input}
use Rattle.vtl_top.proofs.ReplaySteps.{edit_refused, edit_taken}
use Rattle.vtl_top.proofs.replay.carry_out_edit.Goals as goal

pub returns-in-Ok-replace-clause-takes : goal.returns-in-Ok-replace-clause-takes
returns-in-Ok-replace-clause-takes g c =
    let t = typed_view (script_at c.args.stage.now) in
    let e = edit_view c.args.edit.now in
    let read = subst (λ (x : TypedScript). Takes g.F.Files c.args.files.now c.read_edited.new.files (dataset_step x.settings (edit_input (typed_view x) e)) rows_in (Ok c.in-Ok.table)) c.script.ensures.script c.in-Ok.ensures.takes in
    edit_taken g.F.Files c.args.files.now c.read_edited.new.files t (stage_view c.args.stage.now) (stage_view c.replace.new.stage) e c.in-Ok.table tt read c.in-Ok-replace.ensures.refreshed

pub returns-in-Err-clause-takes : goal.returns-in-Err-clause-takes
returns-in-Err-clause-takes g c =
    let t = typed_view (script_at c.args.stage.now) in
    let e = edit_view c.args.edit.now in
    let read = subst (λ (x : TypedScript). Takes g.F.Files c.args.files.now c.read_edited.new.files (dataset_step x.settings (edit_input (typed_view x) e)) rows_in (Err c.in-Err.status)) c.script.ensures.script c.in-Err.ensures.takes in
    edit_refused g.F.Files c.args.files.now c.read_edited.new.files t (stage_view c.args.stage.now) (stage_view c.args.stage.now) e c.in-Err.status read
