use Rattle.vtl_rows.proofs.AllColumns.{all_keys}
use Rattle.vtl_rows.proofs.laws.all_columns_order_rows.Goals as goal

pub returns : goal.returns
returns c = all_keys
