use Rattle.vtl_csv.proofs.DataSetTextLemmas.{csv_any_order}
use Rattle.vtl_csv.proofs.laws.points_are_written_in_one_order.Goals as goal

pub returns : goal.returns
returns c p s xs ys same = csv_any_order p s xs ys same
