use Rattle.vtl_meaning_laws.proofs.Stands.{at_place, place_within}
use Rattle.vtl_meaning_laws.proofs.windows.points_stand_at_their_places.Goals as goal

pub returns-clause-within : goal.returns-clause-within
returns-clause-within c = place_within

pub returns-clause-itself : goal.returns-clause-itself
returns-clause-itself c = at_place
