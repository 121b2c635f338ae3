use Rattle.std.proofs.Common.{Option, ap, sym, subst, ◌∙◌}
use Rattle.std.specs.Prelude.{IfSome}
use Rattle.std.specs.List.{AllByRecursion}
use Rattle.vtl_lists.proofs.Alls.{all_push}
use Rattle.vtl_tree.specs.View.{comp_exp_of}
use Rattle.vtl_join_filter.specs.Partners.{HasNoFault, IsPair, IsPartner}
use Rattle.vtl_join_filter.specs.declared.partners.Partner.{Partner}
use Rattle.vtl_join_filter.proofs.Keyed.{has_no_fault}
use Rattle.vtl_join_filter.proofs.partners.partners.Goals.{then-not-is_found+in_ok-partner+in-Some+in_ok-push, then-not-is_found+in_ok-partner+in_default, else-not-is_found}
use Rattle.vtl_join_filter.proofs.partners.partners.Goals as goal

pub loop-pair-preserved : goal.loop-pair-preserved
loop-pair-preserved c =
    let a = c.args.asked.now in
    let before = c.loop-pair.invariant in
    let sound = has_no_fault a (comp_exp_of c.args.condition.now) c.requires (sym c.is_safe.ensures ∙ c.if-not-is_safe.false) in
    elim c.if-not-is_found.branch [
      | then-not-is_found+in_ok-partner+in-Some+in_ok-push w ↦
          let pairs = subst (AllByRecursion (IsPair a)) (sym w.deref-then-not-is_found.ensures.value) c.in_ok-pairs.ensures in
          let P : Partner → Type 0 = λ x. HasNoFault a → AllByRecursion (IsPair a) w.deref-then-not-is_found.result.now → IsPartner a x in
          let one : P w.in-Some.partner = subst (λ (o : Option Partner). IfSome o P) w.in-Some.is w.in_ok-partner.ensures in
          subst (AllByRecursion (IsPartner a)) (sym (ap (λ v. v.items) w.partners-is ∙ w.in_ok-push.ensures.items))
          (all_push (IsPartner a) c.loop-pair.partners.items w.in-Some.partner before (one sound pairs))
      | then-not-is_found+in_ok-partner+in_default w ↦ subst (AllByRecursion (IsPartner a)) (sym (ap (λ v. v.items) w.partners-is)) before
      | else-not-is_found w ↦ subst (AllByRecursion (IsPartner a)) (sym (ap (λ v. v.items) w.partners-is)) before
    ]
