use Rattle.std.proofs.Common.{◌≡◌, ◌++◌, map, take}
use Rattle.vtl_tree.specs.View.{comp_exp_of}
use Rattle.selects_to_sql.proofs.items.push_copies.Given as goal

abbrev pub invariant-loop-e : goal.invariant-loop-e
invariant-loop-e l = map comp_exp_of l.out.items ≡ map comp_exp_of l.fn.out.items ++ map comp_exp_of (take l.e-index l.exps)
