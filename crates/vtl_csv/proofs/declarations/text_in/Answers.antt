use Rattle.std.proofs.Common.{Some, chars, sym, ap, ◌∙◌}
use Rattle.vtl_csv.proofs.DeclarationLemmas.{text_refused, text_taken}
use Rattle.vtl_csv.proofs.declarations.text_in.Goals as goal

pub returns-in-Ok : goal.returns-in-Ok
returns-in-Ok c = ap (λ f. Some (chars f)) c.in-Ok.ensures.cases.0 ∙ sym (text_taken c.args.field.now c.in-Ok.ensures.cases.1)

pub returns-in-Err : goal.returns-in-Err
returns-in-Err c = text_refused c.args.field.now c.in-Err.ensures.cases.0
