use Rattle.vtl_meaning_laws.proofs.Unpivoted.{undone}
use Rattle.vtl_meaning_laws.proofs.pivots.unpivot_undoes_pivot.Goals as goal

pub returns : goal.returns
returns c = λ id m name value d s u k code i j h there. undone id m name value d s u i j h k code there
