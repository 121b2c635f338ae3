use Rattle.vtl_to_sql.proofs.InputSets.{inputs_mean}
use Rattle.vtl_to_sql.proofs.laws.scripts_are_translated_over_inputs.Goals as goal

pub returns : goal.returns
returns c = λ p ls reads ss inputs script taken ranged. inputs_mean inputs ls p reads ss script taken ranged
