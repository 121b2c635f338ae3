use Rattle.vtl_meaning_laws.proofs.BracketCodes.{same_structures}
use Rattle.vtl_meaning_laws.proofs.Regrouped.{bracketed, bracketed_sets}
use Rattle.vtl_meaning_laws.proofs.sets.unions_are_associative.Goals as goal

pub returns-clause-lists : goal.returns-clause-lists
returns-clause-lists c = bracketed

pub returns-clause-sets : goal.returns-clause-sets
returns-clause-sets c = bracketed_sets

pub returns-clause-structures : goal.returns-clause-structures
returns-clause-structures c = same_structures
