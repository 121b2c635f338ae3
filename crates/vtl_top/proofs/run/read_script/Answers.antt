use Rattle.std.proofs.Common.{subst}
use Rattle.vtl_top.specs.Refusal.{IsScriptOf}
use Rattle.vtl_syntax.specs.View.{script_tree}
use Rattle.vtl_top.specs.Expected.{read, script_limit, script_of}
use Rattle.vtl_top.proofs.ReadScripts.{script_given}
use Rattle.vtl_top.proofs.StepLemmas.{takes_onward, takes_stopped}
use Rattle.vtl_top.proofs.run.read_script.Goals as goal

pub returns-in-Ok-clause-takes : goal.returns-in-Ok-clause-takes
returns-in-Ok-clause-takes g c =
    takes_onward g.F.Files (read c.args.path.now script_limit) (script_of c.args.path.now) c.args.files.now c.read_file.new.files c.read_file.new.files (λ v. v.items) script_tree c.in-Ok.bytes c.script_of.result c.in-Ok.ensures
    (script_given g.F.Files c.read_file.new.files c.args.path.now c.in-Ok.bytes.items c.script_of.result
    (subst (λ bytes. IsScriptOf c.args.path.now bytes c.script_of.result) c.deref.ensures.value c.script_of.ensures.script))

pub returns-in-Err-clause-takes : goal.returns-in-Err-clause-takes
returns-in-Err-clause-takes g c =
    takes_stopped g.F.Files (read c.args.path.now script_limit) (script_of c.args.path.now) c.args.files.now c.read_file.new.files (λ v. v.items) script_tree c.in-Err.status c.in-Err.ensures
