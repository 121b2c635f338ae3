use Rattle.std.proofs.Common.{sym, subst}
use Rattle.vtl_top.specs.Refusal.{Settles}
use Rattle.vtl_top.proofs.ReadScripts.{structures_no_text, structures_text}
use Rattle.vtl_top.proofs.structures.structures_of.Goals as goal

pub returns-in-Ok : goal.returns-in-Ok
returns-in-Ok c =
    subst (λ wanted. Settles wanted c.declared.result) (sym (structures_text c.args.path.now c.args.bytes.now c.in-Ok.ensures.cases.1)) c.declared.ensures

pub returns-in-Err : goal.returns-in-Err
returns-in-Err c = structures_no_text c.args.path.now c.args.bytes.now c.not_text.result c.in-Err.ensures.cases.0 c.not_text.ensures
