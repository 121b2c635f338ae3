use Rattle.std.proofs.Common.{◌≡◌, map, take}
use Rattle.vtl_tree.specs.View.{comp_exp_of}
use Rattle.vtl_tree.proofs.made_expressions.+copied.Given as goal

abbrev pub invariant-loop-arg : goal.invariant-loop-arg
invariant-loop-arg l = map comp_exp_of l.copies.items ≡ map comp_exp_of (take l.arg-index l.arg-items)
