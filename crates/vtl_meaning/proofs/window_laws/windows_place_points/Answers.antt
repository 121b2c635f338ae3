use Rattle.vtl_meaning.proofs.WindowPlaces.{places_are}
use Rattle.vtl_meaning.proofs.window_laws.windows_place_points.Goals as goal

pub returns : goal.returns
returns c = places_are
