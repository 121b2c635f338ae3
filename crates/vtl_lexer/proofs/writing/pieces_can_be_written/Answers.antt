use Rattle.vtl_lexer.proofs.PieceLemmas.{parts-cut, parts-writable}
use Rattle.vtl_lexer.proofs.writing.pieces_can_be_written.Goals as goal

pub returns-clause-again : goal.returns-clause-again
returns-clause-again c = parts-writable

pub returns-clause-cut : goal.returns-clause-cut
returns-clause-cut c = parts-cut
