use Rattle.std.proofs.Common.{◌≡◌, ◌-◌, ◌++◌, ◌∷◌, [], cond, length, Some, None, true, refl, ap, sym, subst, ◌∙◌}
use Rattle.std.specs.Prelude.{slice_get, unwrap_or}
use Rattle.std.specs.Map.{lookup}
use Rattle.std.proofs.lemmas.Option.{slice_get_read}
use Rattle.vtl_text.specs.Texts.{same_text}
use Rattle.vtl_tree.specs.Structure.{same_name}
use Rattle.check_rules.specs.Order.{is_left}
use Rattle.vtl_tree.specs.RuleItems.{left_item}
use Rattle.check_rules.specs.Running.{IsRunning, count_at, is_free_by, places_at}
use Rattle.check_rules.proofs.Runs.{finished_alone, finished_awaited, finished_free, one_rule}
use Rattle.check_rules.proofs.run.Run.finish.Goals as goal

pub returns-then-not-is_free-clause-running : goal.returns-then-not-is_free-clause-running
returns-then-not-is_free-clause-running c =
    let self = c.args.self.now in
    let rules = c.args.rules.now in
    let r = c.index-rules-place.result in
    let f = c.requires.ready in
    let at : slice_get rules c.args.place ≡ Some r = slice_get_read rules (length rules) c.args.place r refl c.requires.within c.index-rules-place.is in
    let g = f.1.are_ready c.args.place f.2 in
    let here : is_left self.order.items (c.args.place, r) ≡ true = ap (λ s. is_left self.order.items (c.args.place, s)) (one_rule rules c.args.place r g.0 at g.1) ∙ g.2 in
    subst (λ done. IsRunning rules done [] c.discount.new.counts self.free.items self.ready) (sym c.in_ok-push.ensures.items)
    (finished_awaited rules self.order.items c.args.place r at here c.args.users.now c.requires.users self.awaited c.discount.new.counts self.free.items f.0 self.ready f.1 f.2 f.3 f.4
    (λ q. c.discount.ensures q ∙ ap (λ x. cond (same_name q x) (count_at q self.awaited - 1) (count_at q self.awaited)) c.left_item-item.ensures)
    (sym (ap (is_free_by c.discount.new.counts) c.left_item-item.ensures) ∙ sym c.is_free.ensures ∙ c.if-not-is_free.true))

pub settle_all-requires : goal.settle_all-requires
settle_all-requires c =
    let self = c.args.self.now in
    let rules = c.args.rules.now in
    let r = c.index-rules-place.result in
    let f = c.requires.ready in
    let at : slice_get rules c.args.place ≡ Some r = slice_get_read rules (length rules) c.args.place r refl c.requires.within c.index-rules-place.is in
    let g = f.1.are_ready c.args.place f.2 in
    let here : is_left self.order.items (c.args.place, r) ≡ true = ap (λ s. is_left self.order.items (c.args.place, s)) (one_rule rules c.args.place r g.0 at g.1) ∙ g.2 in
    let found : Some c.in-Some.places.now ≡ lookup (same_text c.left_item-item.result.now) c.args.users.now = c.in-Some.ensures in
    let places : c.in-Some.places.now ≡ places_at (left_item r) c.args.users.now = ap (λ o. unwrap_or o []) found ∙ ap (λ x. places_at x c.args.users.now) c.left_item-item.ensures in
    subst (λ done. IsRunning rules done c.as_slice.result.now c.discount.new.counts self.free.items self.ready) (sym c.in_ok-push.ensures.items)
    (subst (λ l. IsRunning rules (self.order.items ++ c.args.place ∷ []) l c.discount.new.counts self.free.items self.ready) (sym (c.as_slice.ensures ∙ places))
    (finished_free rules self.order.items c.args.place r at here c.args.users.now c.requires.users self.awaited c.discount.new.counts self.free.items f.0 self.ready f.1 f.2 f.3 f.4
    (λ q. c.discount.ensures q ∙ ap (λ x. cond (same_name q x) (count_at q self.awaited - 1) (count_at q self.awaited)) c.left_item-item.ensures)))

pub returns-in-None-clause-running : goal.returns-in-None-clause-running
returns-in-None-clause-running c =
    let self = c.args.self.now in
    let rules = c.args.rules.now in
    let r = c.index-rules-place.result in
    let f = c.requires.ready in
    let at : slice_get rules c.args.place ≡ Some r = slice_get_read rules (length rules) c.args.place r refl c.requires.within c.index-rules-place.is in
    let g = f.1.are_ready c.args.place f.2 in
    let here : is_left self.order.items (c.args.place, r) ≡ true = ap (λ s. is_left self.order.items (c.args.place, s)) (one_rule rules c.args.place r g.0 at g.1) ∙ g.2 in
    let none : None ≡ lookup (same_text c.left_item-item.result.now) c.args.users.now = c.in-None.ensures in
    subst (λ done. IsRunning rules done [] c.discount.new.counts self.free.items self.ready) (sym c.in_ok-push.ensures.items)
    (finished_alone rules self.order.items c.args.place r at here c.args.users.now c.requires.users self.awaited c.discount.new.counts self.free.items f.0 self.ready f.1 f.2 f.3 f.4
    (λ q. c.discount.ensures q ∙ ap (λ x. cond (same_name q x) (count_at q self.awaited - 1) (count_at q self.awaited)) c.left_item-item.ensures)
    (none ∙ ap (λ x. lookup (same_text x) c.args.users.now) c.left_item-item.ensures))
