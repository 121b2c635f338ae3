use Rattle.std.specs.Str.{chars}
use Rattle.check_shapes.proofs.checks.imbalance.Goals as goal

pub returns : goal.returns
unfolding chars
returns c = c.new_measure.ensures
