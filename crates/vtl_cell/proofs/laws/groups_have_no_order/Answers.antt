use Rattle.vtl_cell.proofs.Aggregates.{group-Perm, count-Perm, ratio-Perm}
use Rattle.vtl_cell.proofs.laws.groups_have_no_order.Goals as goal

pub returns-clause-values : goal.returns-clause-values
returns-clause-values c = group-Perm

pub returns-clause-points : goal.returns-clause-points
returns-clause-points c = λ p xs ys q. count-Perm p xs ys q

pub returns-clause-ratios : goal.returns-clause-ratios
returns-clause-ratios c = ratio-Perm
