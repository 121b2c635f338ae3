use Rattle.sql_engine.proofs.DeclaredInputs.{lawful_structure}
use Rattle.sql_engine.proofs.laws.inputs_are_data_sets.Goals as goal

pub returns-clause-structures : goal.returns-clause-structures
returns-clause-structures c = lawful_structure
