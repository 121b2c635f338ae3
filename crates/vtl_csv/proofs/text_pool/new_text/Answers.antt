use Rattle.std.proofs.Common.{Some, chars, sym, ap, ◌∙◌}
use Rattle.vtl_csv.proofs.DeclarationLemmas.{text_refused, text_taken}
use Rattle.vtl_csv.proofs.text_pool.new_text.Goals as goal

pub returns-in_ok-new-in-Ok : goal.returns-in_ok-new-in-Ok
returns-in_ok-new-in-Ok c =
    let f = c.args.field.now in
    let text = c.in_ok-new-in-Ok.ensures ∙ ap chars c.in-Ok.ensures.cases.0 in
    ap Some text ∙ sym (text_taken f c.in-Ok.ensures.cases.1)

pub returns-in-Err : goal.returns-in-Err
returns-in-Err c = text_refused c.args.field.now c.in-Err.ensures.cases.0
