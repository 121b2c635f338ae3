use Rattle.std.proofs.Common.{map, sym, subst}
use Rattle.std.specs.List.{AllByRecursion}
use Rattle.vtl_backend.specs.Inputs.{environment_of, inputs_of}
use Rattle.vtl_top.specs.Answered.{Takes}
use Rattle.vtl_top.specs.EditsView.{NamesInput, edit_view, files_and_text, stage_view}
use Rattle.vtl_top.specs.Expected.{folder_step}
use Rattle.vtl_top.specs.Informed.{typed_view}
use Rattle.vtl_top.specs.Replayed.{begun, carried_on}
use Rattle.vtl_top.specs.RunView.{replay_view}
use Rattle.vtl_top.proofs.StepLemmas.{takes_onward, takes_stopped}
use Rattle.vtl_top.proofs.replay.replayed.Goals as goal

pub carry_on-requires-clause-inputs : goal.carry_on-requires-clause-inputs
carry_on-requires-clause-inputs g c = subst (λ t. AllByRecursion (NamesInput t) c.args.edits.now) (sym c.in-Ok-begin.ensures.script) c.requires

pub returns-in-Ok-begin-clause-takes : goal.returns-in-Ok-begin-clause-takes
returns-in-Ok-begin-clause-takes g c =
    let r = replay_view c.args.replay.now in
    let t = typed_view c.args.checked in
    let edits = map edit_view c.args.edits.now in
    takes_onward g.F.Files (folder_step r.input c.args.checked.settings c.args.checked.not_null (inputs_of c.args.checked)) (λ inputs. carried_on r.output t (begun t inputs) edits) c.args.files.now c.read_inputs.new.files c.carry_on.new.files (environment_of c.args.checked) files_and_text c.in-Ok.inputs c.carry_on.result c.in-Ok.ensures.takes
    (subst (λ s. Takes g.F.Files c.read_inputs.new.files c.carry_on.new.files (carried_on r.output t s edits) files_and_text c.carry_on.result) c.in-Ok-begin.ensures.begun
    (subst (λ x. Takes g.F.Files c.read_inputs.new.files c.carry_on.new.files (carried_on r.output (typed_view x) (stage_view c.in-Ok-begin.start) edits) files_and_text c.carry_on.result) c.in-Ok-begin.ensures.script c.carry_on.ensures.takes))

pub returns-in-Err-clause-takes : goal.returns-in-Err-clause-takes
returns-in-Err-clause-takes g c =
    let r = replay_view c.args.replay.now in
    let t = typed_view c.args.checked in
    takes_stopped g.F.Files (folder_step r.input c.args.checked.settings c.args.checked.not_null (inputs_of c.args.checked)) (λ inputs. carried_on r.output t (begun t inputs) (map edit_view c.args.edits.now)) c.args.files.now c.read_inputs.new.files (environment_of c.args.checked) files_and_text c.in-Err.status c.in-Err.ensures.takes
