use Rattle.std.proofs.Common.{subst}
use Rattle.vtl_top.specs.Expected.{read, structures_limit}
use Rattle.vtl_top.specs.Refusal.{Settles}
use Rattle.vtl_top.specs.Steps.{settled}
use Rattle.vtl_top.specs.Structures.{structures_in}
use Rattle.vtl_top.proofs.ReadScripts.{settled_given, structures_refuse}
use Rattle.vtl_top.proofs.StepLemmas.{takes_onward, takes_stopped}
use Rattle.vtl_top.proofs.run.read_structures_file.Goals as goal

pub returns-in-Ok : goal.returns-in-Ok
returns-in-Ok g c =
    let path = c.args.path.now in
    takes_onward g.F.Files (read path structures_limit) (λ bytes. settled (structures_in path bytes)) c.args.files.now c.read_file.new.files c.read_file.new.files (λ v. v.items) (λ d. d) c.in-Ok.bytes c.structures_of.result c.in-Ok.ensures
    (settled_given g.F.Files c.read_file.new.files (λ d. d) (structures_in path c.in-Ok.bytes.items) (structures_refuse path c.in-Ok.bytes.items) c.structures_of.result
    (subst (λ bytes. Settles (structures_in path bytes) c.structures_of.result) c.deref.ensures.value c.structures_of.ensures))

pub returns-in-Err : goal.returns-in-Err
returns-in-Err g c =
    let path = c.args.path.now in
    takes_stopped g.F.Files (read path structures_limit) (λ bytes. settled (structures_in path bytes)) c.args.files.now c.read_file.new.files (λ v. v.items) (λ d. d) c.in-Err.status c.in-Err.ensures
