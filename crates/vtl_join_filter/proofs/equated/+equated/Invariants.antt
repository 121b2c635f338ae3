use Rattle.std.proofs.Common.{map}
use Rattle.std.specs.List.{AllByRecursion}
use Rattle.vtl_decimal.specs.Settings.{Settings}
use Rattle.vtl_tree.specs.CompExp.{CompExp}
use Rattle.vtl_tree.specs.View.{comp_exp_of}
use Rattle.vtl_join_filter.specs.Equalities.{Equates, Implies}
use Rattle.vtl_join_filter.proofs.equated.+equated.Given as goal

abbrev pub invariant-push_each-loop-condition : goal.invariant-push_each-loop-condition
invariant-push_each-loop-condition l = (p : Settings) (e : CompExp) → AllByRecursion (Implies p e) (map comp_exp_of l.conditions) → AllByRecursion (Equates p e) l.fn.pairs.items → AllByRecursion (Equates p e) l.pairs.items
