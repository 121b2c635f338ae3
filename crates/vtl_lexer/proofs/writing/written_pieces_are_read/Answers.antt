use Rattle.vtl_lexer.proofs.Alone.{alone}
use Rattle.vtl_lexer.proofs.PieceLemmas.{stands-parts}
use Rattle.vtl_lexer.proofs.writing.written_pieces_are_read.Goals as goal

pub returns-clause-read : goal.returns-clause-read
returns-clause-read c = stands-parts

pub returns-clause-alone : goal.returns-clause-alone
returns-clause-alone c = alone
