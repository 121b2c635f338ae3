use Rattle.vtl_rows.proofs.AllColumns.{all_columns_last}
use Rattle.vtl_rows.proofs.laws.all_columns_end_ties.Goals as goal

pub returns : goal.returns
returns c = all_columns_last
