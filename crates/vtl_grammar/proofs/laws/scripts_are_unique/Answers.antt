use Rattle.vtl_grammar.proofs.UniqueLemmas.{spells_unique}
use Rattle.vtl_grammar.proofs.laws.scripts_are_unique.Goals as goal

pub returns : goal.returns
returns c = spells_unique
