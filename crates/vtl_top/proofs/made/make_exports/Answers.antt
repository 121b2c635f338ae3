use Rattle.std.proofs.Common.{refl}
use Rattle.vtl_top.specs.MadeView.{made_view}
use Rattle.vtl_top.specs.OutputView.{outputs_view}
use Rattle.vtl_top.specs.RunView.{engine_view}
use Rattle.vtl_top.specs.SqlRun.{engine_step}
use Rattle.vtl_top.specs.Steps.{only_files}
use Rattle.vtl_top.proofs.MadeLemmas.{settles}
use Rattle.vtl_top.proofs.RunLemmas.{wrapped, wrapped_refusal}
use Rattle.vtl_top.proofs.made.make_exports.Goals as goal

pub returns-in-Ok-clause-takes : goal.returns-in-Ok-clause-takes
returns-in-Ok-clause-takes g c =
    wrapped g.F.Files c.args.files.now c.prepare_exports.new.files (engine_step (engine_view c.args.asked.now)) only_files outputs_view made_view c.in-Ok.outputs c.made_of.result c.in-Ok.ensures.takes
    (settles c.in-Ok.outputs c.new.result (outputs_view c.in-Ok.outputs) _ c.made_of.result c.made_of.ensures refl c.new.ensures.items)

pub returns-in-Err-clause-takes : goal.returns-in-Err-clause-takes
returns-in-Err-clause-takes g c =
    wrapped_refusal g.F.Files c.args.files.now c.prepare_exports.new.files (engine_step (engine_view c.args.asked.now)) only_files outputs_view made_view c.in-Err.status c.in-Err.ensures.takes
