use Rattle.std.proofs.Common.{◌≡◌, map, take}
use Rattle.vtl_tree.specs.Shown.{shown}
use Rattle.vtl_tree.specs.Structure.{columns_of}
use Rattle.vtl_tree.specs.View.{comp_exp_of}
use Rattle.vtl_tree.specs.Columns.{columns_named}
use Rattle.vtl_expr.proofs.expressions.columns_named.Given as goal

abbrev pub invariant-loop-column : goal.invariant-loop-column
invariant-loop-column l = map comp_exp_of l.exps.items ≡ columns_named (columns_of l.structure) (shown (take l.column-index l.wanted))
