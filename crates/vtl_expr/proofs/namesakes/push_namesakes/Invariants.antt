use Rattle.std.proofs.Common.{◌≡◌, ◌++◌, map, take}
use Rattle.vtl_tree.specs.Shown.{shown}
use Rattle.vtl_tree.specs.View.{comp_exp_of}
use Rattle.vtl_meaning.specs.Operators.{for_measures, with_namesake}
use Rattle.vtl_expr.specs.Sides.{side_column}
use Rattle.vtl_expr.proofs.namesakes.push_namesakes.Given as goal

abbrev pub invariant-loop-i : goal.invariant-loop-i
invariant-loop-i l = map comp_exp_of l.exps.items ≡ map comp_exp_of l.fn.exps.items ++ for_measures (with_namesake l.op (side_column l.left) (side_column l.right)) (shown (take l.i l.measures)) (shown (take l.i l.made))
