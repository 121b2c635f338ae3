use Rattle.check_laws.proofs.Alike.{script-alike, typed-alike}
use Rattle.check_laws.proofs.laws.typing_depends_on_what_is_read.Goals as goal

pub returns-clause-expression : goal.returns-clause-expression
returns-clause-expression c = typed-alike

pub returns-clause-script : goal.returns-clause-script
returns-clause-script c = script-alike
