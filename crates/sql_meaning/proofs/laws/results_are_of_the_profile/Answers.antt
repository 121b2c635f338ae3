use Rattle.sql_meaning.proofs.Profiled.{query_are, sources_are, statements_are}
use Rattle.sql_meaning.proofs.laws.results_are_of_the_profile.Goals as goal

pub returns-clause-sources : goal.returns-clause-sources
returns-clause-sources c = λ b s fit. sources_are b fit s

pub returns-clause-queries : goal.returns-clause-queries
returns-clause-queries c = λ b q fit. query_are b fit q

pub returns-clause-statements : goal.returns-clause-statements
returns-clause-statements c = λ p inputs ss m read held. statements_are p inputs read ss m held
