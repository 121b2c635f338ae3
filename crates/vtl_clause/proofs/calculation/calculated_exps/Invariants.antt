use Rattle.std.proofs.Common.{◌≡◌, map, take}
use Rattle.vtl_tree.specs.Shown.{shown}
use Rattle.vtl_tree.specs.Structure.{columns_of}
use Rattle.vtl_tree.specs.View.{comp_exp_of}
use Rattle.vtl_tree.specs.NodeView.{item_tree}
use Rattle.vtl_meaning.specs.Operators.{calculated_exp}
use Rattle.vtl_clause.proofs.calculation.calculated_exps.Given as goal

abbrev pub invariant-loop-column : goal.invariant-loop-column
invariant-loop-column l = map comp_exp_of l.exps.items ≡ map (calculated_exp (map item_tree l.items) (columns_of l.a)) (shown (take l.column-index l.wanted))
