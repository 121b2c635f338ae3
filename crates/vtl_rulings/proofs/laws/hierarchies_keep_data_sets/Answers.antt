use Rattle.vtl_rulings.proofs.HierarchiesMade.{hierarchy_kept}
use Rattle.vtl_rulings.proofs.laws.hierarchies_keep_data_sets.Goals as goal

pub returns : goal.returns
returns c = λ p h m i rules a o s made is set. hierarchy_kept p h m i rules a.structure s a.points is set o made
