use Rattle.std.proofs.Common.{◌≡◌, length, sym, subst, arith}
use Rattle.std.specs.List.{AllByRecursion}
use Rattle.vtl_lists.proofs.Alls.{all_push}
use Rattle.vtl_join_filter.specs.Equalities.{Equates}
use Rattle.vtl_join_filter.specs.declared.equated.Equated.{Equated}
use Rattle.vtl_join_filter.proofs.Equations.{columns_equated}
use Rattle.vtl_join_filter.proofs.equated.push_columns.Goals as goal

pub returns-in_ok-push : goal.returns-in_ok-push
returns-in_ok-push c p e kind h before =
    let x = c.in-Some-Some in
    let pair : Equated = record { left = x.left; right = x.right } in
    let two : length c.args.args.now ≡ 2 = omega (arith, c.if-args-ne2.false) in
    subst (AllByRecursion (Equates p e)) (sym c.in_ok-push.ensures.items)
    (all_push (Equates p e) c.args.pairs.now.items pair before
    (columns_equated p e kind c.args.args.now c.index-args-0.result c.index-args-1.result pair two c.index-args-0.is c.index-args-1.is
    x.ensures x.ensures' h))
