use Rattle.std.proofs.Common.{◌≡◌, ◌++◌, map, take}
use Rattle.vtl_tree.specs.Shown.{shown}
use Rattle.vtl_tree.specs.Structure.{columns_of}
use Rattle.vtl_tree.specs.View.{comp_exp_of}
use Rattle.vtl_tree.specs.NodeView.{measure_tree}
use Rattle.vtl_meaning.specs.Operators.{for_measures, with_measure}
use Rattle.vtl_expr.proofs.measures.push_measured.Given as goal

abbrev pub invariant-loop-i : goal.invariant-loop-i
invariant-loop-i l = map comp_exp_of l.exps.items ≡ map comp_exp_of l.fn.exps.items ++ for_measures (with_measure (measure_tree l.op) (columns_of l.structure)) (shown (take l.i l.measures)) (shown (take l.i l.made))
