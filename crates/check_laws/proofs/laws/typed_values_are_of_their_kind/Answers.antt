use Rattle.check_laws.proofs.ValueKinds.{typed-values}
use Rattle.check_laws.proofs.laws.typed_values_are_of_their_kind.Goals as goal

pub returns : goal.returns
returns c = typed-values
