use Rattle.std.proofs.Common.{refl, ap, ℕ}
use Rattle.std.specs.Global.{Vec}
use Rattle.std.specs.Prelude.{string_bytes}
use Rattle.vtl_top.specs.EditsView.{files_and_text}
use Rattle.vtl_top.specs.MadeView.{made_view}
use Rattle.vtl_top.specs.OutputView.{outputs_view}
use Rattle.vtl_top.specs.Replayed.{replay_step}
use Rattle.vtl_top.specs.RunView.{replay_view}
use Rattle.vtl_top.proofs.MadeLemmas.{settles}
use Rattle.vtl_top.proofs.ReplaySteps.{made_passed, refusal_passed}
use Rattle.vtl_top.proofs.made.make_replay.Goals as goal

pub returns-in-Ok-clause-takes : goal.returns-in-Ok-clause-takes
returns-in-Ok-clause-takes g c =
    made_passed g.F.Files c.args.files.now c.prepare_replay.new.files (replay_step (replay_view c.args.asked.now)) files_and_text made_view (c.in-Ok.outputs, c.in-Ok.lines) c.made_of.result c.in-Ok.ensures.takes
    (settles c.in-Ok.outputs c.into_bytes.result (outputs_view c.in-Ok.outputs) (string_bytes c.in-Ok.lines) c.made_of.result c.made_of.ensures refl (ap (λ (v : Vec ℕ). v.items) c.into_bytes.ensures.value))

pub returns-in-Err-clause-takes : goal.returns-in-Err-clause-takes
returns-in-Err-clause-takes g c =
    refusal_passed g.F.Files c.args.files.now c.prepare_replay.new.files (replay_step (replay_view c.args.asked.now)) files_and_text made_view c.in-Err.status c.in-Err.ensures.takes
