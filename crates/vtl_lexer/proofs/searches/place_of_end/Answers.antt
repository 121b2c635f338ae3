use Rattle.vtl_lexer.proofs.SearchLemmas.{ends-result}
use Rattle.vtl_lexer.proofs.searches.place_of_end.Goals as goal

pub returns : goal.returns
returns c = ends-result c.args.text.now c.find.result c.find.ensures
