use Rattle.std.proofs.Common.{sym, subst, Result, Vec, Global}
use Rattle.vtl_top.specs.Answered.{Takes}
use Rattle.vtl_top.specs.Expected.{run_step, typed_step}
use Rattle.vtl_top.specs.OutputView.{outputs_view}
use Rattle.vtl_top.specs.RunView.{run_view, source_view}
use Rattle.vtl_top.specs.Informed.{TellsRun}
use Rattle.vtl_top.specs.Steps.{status_of}
use Rattle.vtl_top.specs.declared.output.Output.{Output}
use Rattle.vtl_status.specs.declared.status.Status.{Status}
use Rattle.vtl_backend.specs.Inputs.{environment_of, inputs_of}
use Rattle.vtl_top.proofs.RefusedLemmas.{inputs_tell}
use Rattle.vtl_top.proofs.RunLemmas.{inputs_refused, passed_on, then_results}
use Rattle.vtl_top.proofs.StepLemmas.{told_behind}
use Rattle.vtl_top.proofs.run.prepare.Goals as goal

pub returns-in_err-inputs-clause-takes : goal.returns-in_err-inputs-clause-takes
returns-in_err-inputs-clause-takes g c =
    let r = run_view c.args.run.now in
    subst (λ (res : Result (Vec Output Global) Status). Takes g.F.Files c.args.files.now c.read_inputs.new.files (run_step r) outputs_view res)
    (sym (passed_on c.from_residual-in_err-inputs.result c.in_err-inputs.field-0.0 c.from_residual-in_err-inputs.ensures.1))
    (inputs_refused g.F.Files r outputs_view c.args.files.now c.read_typed.new.files c.in_ok-checked.checked c.in_ok-checked.ensures c.read_inputs.new.files c.in_err-inputs.field-0.0
    c.in_err-inputs.ensures.takes)

pub returns-in_err-inputs-clause-told : goal.returns-in_err-inputs-clause-told
returns-in_err-inputs-clause-told g c =
    let step = typed_step (source_view c.args.run.now.source) in
    let told = g.B.Backend.told c.args.back.now in
    subst (λ (res : Result (Vec Output Global) Status). TellsRun g.F.Files c.args.files.now step told (status_of res))
    (sym (passed_on c.from_residual-in_err-inputs.result c.in_err-inputs.field-0.0 c.from_residual-in_err-inputs.ensures.1))
    (inputs_tell g.F.Files c.args.files.now c.read_typed.new.files c.read_inputs.new.files step c.args.run.now.input.now c.in_ok-checked.checked.settings c.in_ok-checked.checked.not_null (inputs_of c.in_ok-checked.checked) (environment_of c.in_ok-checked.checked) told c.in_err-inputs.field-0.0
    c.in_ok-checked.ensures.reads.held c.in_err-inputs.ensures.takes)

pub returns-clause-takes : goal.returns-clause-takes
returns-clause-takes g c =
    let r = run_view c.args.run.now in
    then_results g.F.Files r outputs_view c.args.files.now c.read_typed.new.files c.in_ok-checked.checked c.in_ok-checked.ensures c.read_inputs.new.files c.in_ok-inputs.inputs c.results.result
    c.in_ok-inputs.ensures.takes c.results.ensures.view

pub returns-clause-told : goal.returns-clause-told
returns-clause-told g c =
    told_behind g.F.Files c.args.files.now c.read_typed.new.files (typed_step (source_view c.args.run.now.source)) (g.B.Backend.told c.results.new.back) c.in_ok-checked.checked (status_of c.results.result) c.in_ok-checked.ensures c.results.ensures.told
