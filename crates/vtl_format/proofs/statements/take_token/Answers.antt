use Rattle.std.proofs.Common.{◌∙◌, List, string_bytes, subst, sym}
use Rattle.std.specs.List.{AllByRecursion}
use Rattle.std.proofs.lemmas.Result.{IfOk-weaker}
use Rattle.vtl_lists.proofs.Alls.{all_push}
use Rattle.vtl_lexer.specs.Pieces.{IsCutOf}
use Rattle.vtl_lexer.specs.declared.token.Token.{Token}
use Rattle.vtl_format.proofs.Lists.{token-ends, token-kept}
use Rattle.vtl_format.proofs.statements.take_token.Goals as goal

pub returns-then-ends_statement-clause-held : goal.returns-then-ends_statement-clause-held
returns-then-ends_statement-clause-held c =
    IfOk-weaker c.end_statement.result _ _ (λ done none. subst (λ (l : List Token). AllByRecursion (IsCutOf c.args.text.now) l) (sym none) tt) c.end_statement.ensures.tokens

pub returns-then-ends_statement-clause-written : goal.returns-then-ends_statement-clause-written
returns-then-ends_statement-clause-written c =
    token-ends c.end_statement.result c.args.text.now c.args.held.now.inside c.end_statement.new.held.inside c.args.held.now.tokens.items c.end_statement.new.held.tokens.items c.args.token (string_bytes c.args.out.now) (string_bytes c.end_statement.new.out)
    (sym c.ends_statement.ensures ∙ c.if-ends_statement.true) c.end_statement.ensures.tokens c.end_statement.ensures.inside c.end_statement.ensures.written

pub returns-else-ends_statement-clause-held : goal.returns-else-ends_statement-clause-held
returns-else-ends_statement-clause-held c =
    IfOk-weaker c.hold.result _ _ (λ done more. subst (λ (l : List Token). AllByRecursion (IsCutOf c.args.text.now) l) (sym more) (all_push (IsCutOf c.args.text.now) c.args.held.now.tokens.items c.args.token c.requires.held c.requires.token))
    c.hold.ensures.tokens

pub returns-else-ends_statement-clause-written : goal.returns-else-ends_statement-clause-written
returns-else-ends_statement-clause-written c =
    token-kept c.hold.result c.args.text.now c.args.held.now.inside c.hold.new.held.inside c.args.held.now.tokens.items c.hold.new.held.tokens.items c.args.token (string_bytes c.args.out.now)
    (sym c.ends_statement.ensures ∙ c.if-ends_statement.false) c.hold.ensures.tokens c.hold.ensures.inside
