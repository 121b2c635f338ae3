use Rattle.std.proofs.Common.{◌∷◌, ◌++◌, ◌∙◌, [], ap, string_bytes}
use Rattle.std.proofs.lemmas.Result.{IfOk-equal}
use Rattle.vtl_format.specs.Form.{lexemes_at}
use Rattle.vtl_format.specs.Layout.{statement_form}
use Rattle.vtl_format.proofs.statements.write_statement.Goals as goal

pub returns : goal.returns
returns c =
    let old = string_bytes c.args.out.now in
    let new = string_bytes c.write_line.new.out in
    let form = statement_form (lexemes_at c.args.text.now c.args.tokens.now) in
    IfOk-equal c.write_line.result new (old ++ (c.as_str.result.now ++ 10 ∷ [])) (old ++ (form ++ 10 ∷ [])) c.write_line.ensures (ap (λ l. old ++ (l ++ 10 ∷ [])) (c.as_str.ensures.value ∙ c.in_ok-form.ensures))
