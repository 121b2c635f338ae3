use Rattle.vtl_top.proofs.Sure.{not_without, texts_not_without}
use Rattle.vtl_top.proofs.laws.expected_is_there.Goals as goal

pub returns : goal.returns
returns c = record { given = not_without; texts = texts_not_without }
