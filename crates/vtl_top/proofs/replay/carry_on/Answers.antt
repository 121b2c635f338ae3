use Rattle.std.proofs.Common.{map, subst}
use Rattle.vtl_top.specs.EditsView.{edit_view, files_and_text, script_at, stage_view}
use Rattle.vtl_top.specs.Informed.{typed_view}
use Rattle.vtl_top.specs.Refusal.{SettlesBy}
use Rattle.vtl_top.specs.Replayed.{replay_made}
use Rattle.vtl_top.proofs.ReplaySteps.{carried_made, carried_stopped}
use Rattle.vtl_top.proofs.replay.carry_on.Goals as goal

pub returns-in-Ok-clause-takes : goal.returns-in-Ok-clause-takes
returns-in-Ok-clause-takes g c =
    let folder = c.args.folder.now in
    let last = stage_view c.carry_out_edits.new.stage in
    carried_made g.F.Files folder (typed_view (script_at c.args.start)) (stage_view c.args.start) last (map edit_view c.args.edits.now) files_and_text c.args.files.now c.carry_out_edits.new.files tt c.replay_made.result c.in-Ok.ensures.takes
    (subst (λ t. SettlesBy files_and_text (replay_made folder (typed_view t) last) c.replay_made.result) c.carry_out_edits.ensures.script c.replay_made.ensures.made)

pub returns-in-Err-clause-takes : goal.returns-in-Err-clause-takes
returns-in-Err-clause-takes g c =
    carried_stopped g.F.Files c.args.folder.now (typed_view (script_at c.args.start)) (stage_view c.args.start) (stage_view c.carry_out_edits.new.stage) (map edit_view c.args.edits.now) files_and_text c.args.files.now c.carry_out_edits.new.files c.in-Err.status c.in-Err.ensures.takes
