use Rattle.vtl_top.specs.EditsView.{files_and_text}
use Rattle.vtl_top.specs.Expected.{typed_step}
use Rattle.vtl_top.specs.Informed.{typed_view}
use Rattle.vtl_top.specs.Replayed.{after_script}
use Rattle.vtl_top.specs.RunView.{replay_view}
use Rattle.vtl_top.proofs.StepLemmas.{takes_onward, takes_stopped}
use Rattle.vtl_top.proofs.replay.prepare_replay.Goals as goal

pub returns-in-Ok-clause-takes : goal.returns-in-Ok-clause-takes
returns-in-Ok-clause-takes g c =
    let r = replay_view c.args.replay.now in
    takes_onward g.F.Files (typed_step r.source) (after_script r) c.args.files.now c.read_typed.new.files c.replay_typed.new.files typed_view files_and_text c.in-Ok.checked c.replay_typed.result c.in-Ok.ensures c.replay_typed.ensures.takes

pub returns-in-Err-clause-takes : goal.returns-in-Err-clause-takes
returns-in-Err-clause-takes g c =
    let r = replay_view c.args.replay.now in
    takes_stopped g.F.Files (typed_step r.source) (after_script r) c.args.files.now c.read_typed.new.files typed_view files_and_text c.in-Err.status c.in-Err.ensures
