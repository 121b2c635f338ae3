use Rattle.std.proofs.Common.{◌≡◌, length, take, ap, ◌∙◌, arith}
use Rattle.std.proofs.lemmas.List.{take_all}
use Rattle.vtl_pages.specs.Chosen.{items_at}
use Rattle.vtl_pages.proofs.Narrows.{all_met, kept_more, kept_same}
use Rattle.vtl_pages.proofs.narrow.keep.Goals as goal
use Rattle.vtl_pages.proofs.narrow.keep.Goals.{then-next-places+then-places-next+in_ok-push, else-next-places, else-next-places-via-then-next-places+else-places-next, else-next-places-via-else-next-places}

pub loop-place-preserved : goal.loop-place-preserved
loop-place-preserved g c =
    let l = c.loop-place in let j = c.if-next-places in let ps = c.args.places.now in let xs = c.args.items.now in let low = c.loop-place-test.true in
    elim j.branch [
      | then-next-places+then-places-next+in_ok-push w ↦
          kept_more ps c.args.width xs l.items l.kept.items l.place l.next l.invariant c.requires.run low c.next-item.result c.next-item.new.self c.next-item.ensures
          j.kept.items j.next c.requires.rising w.if-next-places.true w.if-places-next.true ((λ i. (w.kept-is i).items) ∙ w.in_ok-push.ensures.items) w.next-is
      | else-next-places w ↦
          kept_same ps c.args.width xs l.items l.kept.items l.place l.next l.invariant c.requires.run low c.next-item.result c.next-item.new.self c.next-item.ensures
          j.kept.items j.next (λ more. elim w.else-next-places.branch [
            | else-next-places-via-then-next-places+else-places-next v ↦ v.if-places-next.false
            | else-next-places-via-else-next-places v ↦ absurd (let none = v.if-next-places.false in omega arith)
          ]) (λ i. (w.kept-is i).items) w.next-is
    ]

pub returns-clause-kept : goal.returns-clause-kept
returns-clause-kept g c d =
    let l = c.loop-place in let ps = c.args.places.now in let xs = c.args.items.now in
    let met : l.next ≡ length ps = all_met ps c.args.width xs l.items l.kept.items l.place l.next l.invariant c.loop-place-test.false c.requires.within in
    l.invariant.same d ∙ ap (λ k. items_at d (take k ps) (take c.args.width xs)) met ∙ ap (λ qs. items_at d qs (take c.args.width xs)) (take_all (length ps) ps (omega arith))
