use Rattle.std.proofs.Common.{◌≡◌, map, take}
use Rattle.vtl_tree.specs.CompExp.{const}
use Rattle.vtl_expr.specs.Prepared.{prepared_exp}
use Rattle.vtl_expr.proofs.prepared.constants.Given as goal

abbrev pub invariant-loop-e : goal.invariant-loop-e
invariant-loop-e l = map prepared_exp (take l.e-index l.exps) ≡ map const l.cells.items
