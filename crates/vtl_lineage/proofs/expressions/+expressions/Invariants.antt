use Rattle.std.proofs.Common.{◌≡◌, [], drop, map}
use Rattle.vtl_tree.specs.View.{comp_exp_of, comp_exps_of}
use Rattle.vtl_sources.specs.Sources.{with_expressions}
use Rattle.vtl_lineage.specs.Numbers.{merged}
use Rattle.vtl_lineage.proofs.expressions.+expressions.Given as goal

abbrev pub invariant-with_expressions-loop-e : goal.invariant-with_expressions-loop-e
invariant-with_expressions-loop-e l = with_expressions merged [] l.a l.set (comp_exps_of (map comp_exp_of (drop l.e-index l.exps))) ≡ with_expressions merged [] l.a l.fn.before (comp_exps_of (map comp_exp_of l.exps))
