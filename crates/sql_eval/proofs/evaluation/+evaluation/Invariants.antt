use Rattle.std.proofs.Common.{◌≡◌, drop}
use Rattle.vtl_cell.specs.Outcomes.{all_of}
use Rattle.sql_eval.proofs.Operands.{of_branches, of_items, rest}
use Rattle.sql_eval.proofs.evaluation.+evaluation.Given as goal

abbrev pub invariant-all_values-loop-arg : goal.invariant-all_values-loop-arg
invariant-all_values-loop-arg g l = rest l.p (g.R.Cells.tables l.at) (g.R.Cells.cells l.at) (g.R.Cells.group l.at) (drop l.arg-index l.args) l.all.items ≡ all_of (of_items l.p (g.R.Cells.tables l.at) (g.R.Cells.cells l.at) (g.R.Cells.group l.at) l.args)

abbrev pub invariant-chosen-loop-branch : goal.invariant-chosen-loop-branch
invariant-chosen-loop-branch g l = of_branches l.p (g.R.Cells.tables l.at) (g.R.Cells.cells l.at) (g.R.Cells.group l.at) (drop l.branch-index l.branches) ≡ of_branches l.p (g.R.Cells.tables l.at) (g.R.Cells.cells l.at) (g.R.Cells.group l.at) l.branches
