use Rattle.std.proofs.Common.{subst}
use Rattle.std.specs.Prelude.{string_bytes}
use Rattle.vtl_top.specs.Refusal.{IsFormIn}
use Rattle.vtl_top.specs.Expected.{form_of, read, script_limit}
use Rattle.vtl_top.proofs.ReadScripts.{form_given}
use Rattle.vtl_top.proofs.StepLemmas.{takes_onward, takes_stopped}
use Rattle.vtl_top.proofs.form.prepare_form.Goals as goal

pub returns-in-Ok : goal.returns-in-Ok
returns-in-Ok g c =
    takes_onward g.F.Files (read c.args.path.now script_limit) (form_of c.args.path.now) c.args.files.now c.read_file.new.files c.read_file.new.files (λ v. v.items) string_bytes c.in-Ok.bytes c.form_of.result c.in-Ok.ensures
    (form_given g.F.Files c.read_file.new.files c.args.path.now c.in-Ok.bytes.items c.form_of.result
    (subst (λ bytes. IsFormIn c.args.path.now bytes c.form_of.result) c.deref.ensures.value c.form_of.ensures))

pub returns-in-Err : goal.returns-in-Err
returns-in-Err g c =
    takes_stopped g.F.Files (read c.args.path.now script_limit) (form_of c.args.path.now) c.args.files.now c.read_file.new.files (λ v. v.items) string_bytes c.in-Err.status c.in-Err.ensures
