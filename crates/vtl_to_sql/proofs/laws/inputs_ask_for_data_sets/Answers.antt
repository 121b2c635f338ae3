use Rattle.vtl_to_sql.proofs.InputData.{data_asked, data_read}
use Rattle.vtl_to_sql.proofs.TypedScripts.{declared_coded, declared_shaped}
use Rattle.vtl_to_sql.proofs.laws.inputs_ask_for_data_sets.Goals as goal

pub returns-clause-given : goal.returns-clause-given
returns-clause-given c = λ ls e rows d. data_asked ls e (declared_shaped e d).well_formed (declared_coded e.1 d) rows

pub returns-clause-taken : goal.returns-clause-taken
returns-clause-taken c = λ ls e rows d. data_read ls e (declared_shaped e d).well_formed (declared_coded e.1 d) rows
