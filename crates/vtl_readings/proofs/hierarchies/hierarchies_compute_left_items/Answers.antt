use Rattle.vtl_readings.proofs.LeftItems.{left_items}
use Rattle.vtl_readings.proofs.hierarchies.hierarchies_compute_left_items.Goals as goal

pub returns : goal.returns
returns c = λ p h m i rules a s made is set. left_items h rules a.structure a.points set s is p m i made
