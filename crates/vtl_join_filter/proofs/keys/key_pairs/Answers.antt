use Rattle.std.proofs.Common.{ap, sym, subst, ◌∙◌}
use Rattle.std.specs.List.{AllByRecursion}
use Rattle.vtl_lists.proofs.Alls.{all_push}
use Rattle.vtl_tree.specs.View.{comp_exp_of}
use Rattle.vtl_join_filter.specs.Equalities.{Equates}
use Rattle.vtl_join_filter.specs.Partners.{IsPair}
use Rattle.vtl_join_filter.proofs.Equations.{each_of}
use Rattle.vtl_join_filter.proofs.Keyed.{equates_prepared}
use Rattle.vtl_join_filter.proofs.keys.key_pairs.Goals.{in-Some+in_ok-push, in_default}
use Rattle.vtl_join_filter.proofs.keys.key_pairs.Goals as goal

pub loop-columns-preserved : goal.loop-columns-preserved
loop-columns-preserved c =
    let a = c.args.asked.now in
    let e = comp_exp_of c.args.condition.now in
    let P = Equates a.profile.now e in
    let items = c.deref-columns-items.result.now in
    let all : AllByRecursion P items = subst (AllByRecursion P) (sym c.deref-columns-items.ensures.value) (c.in_ok-equated.ensures a.profile.now) in
    elim c.match-pair_of.branch [
      | in-Some+in_ok-push w ↦
          subst (AllByRecursion (IsPair a)) (sym (ap (λ v. v.items) w.pairs-is ∙ w.in_ok-push.ensures.items))
          (all_push (IsPair a) c.loop-columns.pairs.items w.in-Some.pair c.loop-columns.invariant
          (w.in-Some.ensures (equates_prepared a e c.requires _ (each_of P items c.loop-columns.columns-index _ all c.loop-columns-test.true))))
      | in_default w ↦ subst (AllByRecursion (IsPair a)) (sym (ap (λ v. v.items) w.pairs-is)) c.loop-columns.invariant
    ]
