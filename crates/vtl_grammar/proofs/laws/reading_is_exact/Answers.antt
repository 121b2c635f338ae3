use Rattle.vtl_grammar.proofs.CompleteStatements.{statement_complete}
use Rattle.vtl_grammar.proofs.SoundStatements.{statement_read-sound}
use Rattle.vtl_grammar.proofs.laws.reading_is_exact.Goals as goal

pub returns-clause-read : goal.returns-clause-read
returns-clause-read c = λ ts s rest e. let is = (statement_read-sound ts).holds (s, rest) e in (is.spelled, is.fits)

pub returns-clause-all : goal.returns-clause-all
returns-clause-all c = statement_complete
