use Rattle.std.proofs.Common.{◌∙◌, sym}
use Rattle.vtl_lexer.proofs.LexedLemmas.{lexed-once}
use Rattle.vtl_lexer.proofs.lexing.lex.Goals as goal

pub returns-in-Some-clause-only : goal.returns-in-Some-clause-only
returns-in-Some-clause-only c = λ tokens bad other.
    let same = lexed-once c.args.text.now c.in_ok-lexed.lexed.tokens tokens c.in_ok-lexed.lexed.bad bad c.in_ok-lexed.ensures other in
    sym same.1 ∙ c.in-Some.is

pub returns-in-None-clause-only : goal.returns-in-None-clause-only
returns-in-None-clause-only c = λ tokens bad other.
    let same = lexed-once c.args.text.now c.in_ok-lexed.lexed.tokens tokens c.in_ok-lexed.lexed.bad bad c.in_ok-lexed.ensures other in
    (c.into_vec.ensures ∙ same.0, sym same.1 ∙ c.in-None.is)
