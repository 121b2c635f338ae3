use Rattle.std.proofs.Common.{◌≡◌, drop}
use Rattle.vtl_cell.specs.Outcomes.{all_of}
use Rattle.vtl_expr.proofs.Values.{of_items, rest}
use Rattle.vtl_expr.proofs.evaluation.+evaluation.Given as goal

abbrev pub invariant-all_values-loop-arg : goal.invariant-all_values-loop-arg
invariant-all_values-loop-arg g l = rest l.p (g.R.Cells.columns l.at) (g.R.Cells.aggregates l.at l.p) (drop l.arg-index l.args) l.all.items ≡ all_of (of_items l.p (g.R.Cells.columns l.at) (g.R.Cells.aggregates l.at l.p) l.args)
