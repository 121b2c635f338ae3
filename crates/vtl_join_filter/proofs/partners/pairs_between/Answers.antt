use Rattle.std.proofs.Common.{ap, sym, subst, ◌∙◌}
use Rattle.std.specs.List.{AllByRecursion}
use Rattle.vtl_lists.proofs.Alls.{all_push}
use Rattle.vtl_join_filter.specs.Partners.{IsPair, IsPairBetween}
use Rattle.vtl_join_filter.proofs.Equations.{each_of}
use Rattle.vtl_join_filter.proofs.partners.pairs_between.Goals.{then-pair-front+then-pair-last+in_ok-push, else-pair-front}
use Rattle.vtl_join_filter.proofs.partners.pairs_between.Goals as goal

pub loop-pair-preserved : goal.loop-pair-preserved
loop-pair-preserved c a all =
    let P = IsPairBetween a c.args.front c.args.last in
    let before = c.loop-pair.invariant a all in
    elim c.if-pair-front.branch [
      | then-pair-front+then-pair-last+in_ok-push w ↦
          subst (AllByRecursion P) (sym (ap (λ v. v.items) w.between-is ∙ w.in_ok-push.ensures.items))
          (all_push P c.loop-pair.between.items _ before (record { pair = each_of (IsPair a) c.args.pairs.now c.loop-pair.pair-index _ all c.loop-pair-test.true; asked = w.if-pair-front.true; own = w.if-pair-last.true }))
      | else-pair-front w ↦ subst (AllByRecursion P) (sym (ap (λ v. v.items) w.between-is)) before
    ]
