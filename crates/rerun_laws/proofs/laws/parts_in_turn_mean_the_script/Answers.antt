use Rattle.rerun_laws.proofs.Turns.{in_turn_meant}
use Rattle.rerun_laws.proofs.laws.parts_in_turn_mean_the_script.Goals as goal

pub returns : goal.returns
returns c = in_turn_meant
