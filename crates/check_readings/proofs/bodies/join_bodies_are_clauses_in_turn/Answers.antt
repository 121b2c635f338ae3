use Rattle.check_readings.proofs.Walked.{alike, body, brackets}
use Rattle.check_readings.proofs.bodies.join_bodies_are_clauses_in_turn.Goals as goal

pub returns-clause-body : goal.returns-clause-body
returns-clause-body c = body

pub returns-clause-brackets : goal.returns-clause-brackets
returns-clause-brackets c = brackets

pub returns-clause-alike : goal.returns-clause-alike
returns-clause-alike c = alike
