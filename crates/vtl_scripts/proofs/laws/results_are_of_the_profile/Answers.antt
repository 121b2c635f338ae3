use Rattle.vtl_scripts.proofs.ScriptsProfiles.{meaning_gives, node_gives}
use Rattle.vtl_scripts.proofs.laws.results_are_of_the_profile.Goals as goal

pub returns-clause-expression : goal.returns-clause-expression
returns-clause-expression c = λ p env n i h. node_gives p env h n i

pub returns-clause-outputs : goal.returns-clause-outputs
returns-clause-outputs c = meaning_gives
