use Rattle.vtl_meaning.proofs.ValueKinds.{value_is_of}
use Rattle.vtl_meaning.proofs.laws.values_are_of_their_kind.Goals as goal

pub returns : goal.returns
returns c = value_is_of
