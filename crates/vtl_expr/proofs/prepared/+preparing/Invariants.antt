use Rattle.std.proofs.Common.{map, take}
use Rattle.vtl_tree.specs.View.{comp_exp_of}
use Rattle.vtl_expr.specs.Prepared.{SameValues, prepared_exp}
use Rattle.vtl_expr.proofs.prepared.+preparing.Given as goal

abbrev pub invariant-prepare_all-loop-e : goal.invariant-prepare_all-loop-e
invariant-prepare_all-loop-e l = SameValues (map prepared_exp l.all.items) (map comp_exp_of (take l.e-index l.exps))
