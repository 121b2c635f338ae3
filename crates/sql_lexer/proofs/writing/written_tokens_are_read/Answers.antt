use Rattle.sql_lexer.proofs.WritingLaws.{written-lexed}
use Rattle.sql_lexer.proofs.writing.written_tokens_are_read.Goals as goal

pub returns : goal.returns
returns c = written-lexed
