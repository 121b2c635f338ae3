use Rattle.std.proofs.Common.{◌∷◌, ◌++◌, ◌∙◌, [], List, ap, string_bytes, subst, sym}
use Rattle.std.specs.List.{AllByRecursion}
use Rattle.vtl_lists.proofs.Alls.{all_push}
use Rattle.vtl_lexer.specs.Pieces.{IsCutOf}
use Rattle.vtl_lexer.specs.declared.token.Token.{Token}
use Rattle.vtl_format.specs.Form.{lexemes_at}
use Rattle.vtl_format.specs.Layout.{statement_form}
use Rattle.vtl_format.proofs.statements.end_statement.Goals as goal

pub write_statement-requires : goal.write_statement-requires
write_statement-requires c =
    subst (λ (l : List Token). AllByRecursion (IsCutOf c.args.text.now) l) (sym (c.as_slice.ensures.value ∙ c.in_ok-push.ensures.items))
    (all_push (IsCutOf c.args.text.now) c.args.held.now.tokens.items c.args.token c.requires.held c.requires.token)

pub returns-clause-written : goal.returns-clause-written
returns-clause-written c =
    c.in_ok-write_statement.ensures
    ∙ ap (λ (l : List Token). string_bytes c.args.out.now ++ (statement_form (lexemes_at c.args.text.now l) ++ 10 ∷ [])) (c.as_slice.ensures.value ∙ c.in_ok-push.ensures.items)
