use Rattle.vtl_format.proofs.GrammarStatements.{script-statements}
use Rattle.vtl_format.proofs.laws.statements_are_those_of_the_grammar.Goals as goal

pub returns : goal.returns
returns c = script-statements
