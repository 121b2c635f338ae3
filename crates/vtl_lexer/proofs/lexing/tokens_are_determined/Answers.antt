use Rattle.vtl_lexer.proofs.LexedLemmas.{lexed-once}
use Rattle.vtl_lexer.proofs.lexing.tokens_are_determined.Goals as goal

pub returns : goal.returns
returns c = lexed-once
