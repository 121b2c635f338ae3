use Rattle.vtl_to_sql.proofs.ReadTables.{columns_read}
use Rattle.vtl_to_sql.proofs.laws.inputs_have_their_columns.Goals as goal

pub returns : goal.returns
returns c = λ ls e w. columns_read ls e w
