use Rattle.std.proofs.Common.{sym, subst}
use Rattle.vtl_check.specs.Checked.{inputs_of}
use Rattle.vtl_top.specs.Edits.{edits_in, edits_or_fault}
use Rattle.vtl_top.specs.EditsView.{edits_view}
use Rattle.vtl_top.specs.Refusal.{SettlesBy}
use Rattle.vtl_top.proofs.EditLemmas.{edits_no_text, edits_text}
use Rattle.vtl_top.proofs.edits.edits_of.Goals as goal

pub returns-in-Ok-clause-edits : goal.returns-in-Ok-clause-edits
returns-in-Ok-clause-edits c =
    let names = inputs_of c.args.checked.now in
    let is = subst (λ bytes. SettlesBy edits_view (edits_or_fault (edits_in names bytes)) c.edits_of_text.result) c.in-Ok.ensures.cases.0 c.edits_of_text.ensures.edits in
    subst (λ wanted. SettlesBy edits_view wanted c.edits_of_text.result) (sym (edits_text c.args.path.now names c.args.bytes.now c.in-Ok.ensures.cases.1)) is

pub returns-in-Err-clause-edits : goal.returns-in-Err-clause-edits
returns-in-Err-clause-edits c = edits_no_text c.args.path.now (inputs_of c.args.checked.now) c.args.bytes.now c.not_text.result c.in-Err.ensures.cases.0 c.not_text.ensures
