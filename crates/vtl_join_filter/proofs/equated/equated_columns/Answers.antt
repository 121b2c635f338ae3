use Rattle.std.proofs.Common.{sym, subst}
use Rattle.std.specs.List.{AllByRecursion}
use Rattle.vtl_tree.specs.View.{comp_exp_of}
use Rattle.vtl_join_filter.specs.Equalities.{Equates}
use Rattle.vtl_join_filter.proofs.equated.equated_columns.Goals as goal

pub returns : goal.returns
returns c p =
    let e = comp_exp_of c.args.condition.now in
    c.in_ok-push_equated.ensures p e (λ r h. h) (subst (AllByRecursion (Equates p e)) (sym c.new-pairs.ensures.items) tt)
