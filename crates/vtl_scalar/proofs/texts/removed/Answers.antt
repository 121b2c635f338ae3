use Rattle.std.proofs.lemmas.Str.{chars-nil}
use Rattle.vtl_scalar.proofs.texts.removed.Goals as goal

pub returns : goal.returns
returns c = rw (← chars-nil) c.replace.ensures
