use Rattle.vtl_lexer.proofs.SearchLemmas.{stands-result}
use Rattle.vtl_lexer.proofs.searches.place_of_byte.Goals as goal

pub returns : goal.returns
returns c = stands-result c.args.byte c.args.text.now c.memchr.result c.memchr.ensures
