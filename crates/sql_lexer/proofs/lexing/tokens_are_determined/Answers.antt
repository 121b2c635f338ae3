use Rattle.sql_lexer.proofs.LexedParts.{lexed-once}
use Rattle.sql_lexer.proofs.lexing.tokens_are_determined.Goals as goal

pub returns : goal.returns
returns c = lexed-once
