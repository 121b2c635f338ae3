use Rattle.std.proofs.Common.{subst}
use Rattle.vtl_check.specs.Checked.{inputs_of}
use Rattle.vtl_top.specs.Edits.{edits_of}
use Rattle.vtl_top.specs.EditsView.{edits_view}
use Rattle.vtl_top.specs.Expected.{read, script_limit}
use Rattle.vtl_top.specs.Refusal.{SettlesBy}
use Rattle.vtl_top.specs.Steps.{settled}
use Rattle.vtl_top.proofs.EditLemmas.{edits_refuse}
use Rattle.vtl_top.proofs.ReadScripts.{settled_given}
use Rattle.vtl_top.proofs.StepLemmas.{takes_onward, takes_stopped}
use Rattle.vtl_top.proofs.edits.read_edits.Goals as goal

pub returns-in-Ok-clause-takes : goal.returns-in-Ok-clause-takes
returns-in-Ok-clause-takes g c =
    let path = c.args.path.now in
    let names = inputs_of c.args.checked.now in
    takes_onward g.F.Files (read path script_limit) (λ bytes. settled (edits_of path names bytes)) c.args.files.now c.read_file.new.files c.read_file.new.files (λ v. v.items) edits_view c.in-Ok.bytes c.edits_of.result c.in-Ok.ensures
    (settled_given g.F.Files c.read_file.new.files edits_view (edits_of path names c.in-Ok.bytes.items) (edits_refuse path names c.in-Ok.bytes.items) c.edits_of.result
    (subst (λ bytes. SettlesBy edits_view (edits_of path names bytes) c.edits_of.result) c.deref.ensures.value c.edits_of.ensures.edits))

pub returns-in-Err-clause-takes : goal.returns-in-Err-clause-takes
returns-in-Err-clause-takes g c =
    let path = c.args.path.now in
    takes_stopped g.F.Files (read path script_limit) (λ bytes. settled (edits_of path (inputs_of c.args.checked.now) bytes)) c.args.files.now c.read_file.new.files (λ v. v.items) edits_view c.in-Err.status c.in-Err.ensures
