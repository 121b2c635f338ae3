use Rattle.std.proofs.Common.{◌≡◌, ◌<◌, length, take, get_or, Some, refl, ap, arith, ◌∙◌}
use Rattle.std.specs.Prelude.{slice_get}
use Rattle.std.specs.List.{list_all}
use Rattle.std.proofs.lemmas.List.{get_or_default}
use Rattle.std.proofs.lemmas.Option.{slice_get_read}
use Rattle.vtl_tree.specs.RuleItems.{right_items}
use Rattle.check_rules.specs.Running.{is_free_by}
use Rattle.check_rules.proofs.Runs.{looked_ready, looked_waiting, not_at}
use Rattle.check_rules.proofs.run.Run.settle.Goals as goal

pub returns-then-free-right_len-clause-running : goal.returns-then-free-right_len-clause-running
returns-then-free-right_len-clause-running c = λ pending run.
    let self = c.args.self.now in
    let r = c.index-rules-place.result in
    let at : slice_get c.args.rules.now c.args.place ≡ Some r = slice_get_read c.args.rules.now (length c.args.rules.now) c.args.place r refl c.requires.within c.index-rules-place.is in
    let many = c.requires.many in
    let inside : c.args.place < length self.free.items = omega arith in
    let known : c.index.result.now ≡ get_or self.free.items c.args.place 0 = c.index.ensures ∙ get_or_default self.free.items c.args.place c.index.result.now 0 inside in
    looked_waiting c.args.rules.now self.order.items pending self.awaited self.free.items self.ready c.args.place c.free_from-free.result r at run
    (λ h. c.free_from-free.ensures.free (ap (λ n. list_all (is_free_by self.awaited) (take n (right_items r))) known ∙ h))
    (c.free_from-free.ensures.awaited (let long = c.right_len.ensures in omega arith))

pub returns-clause-running : goal.returns-clause-running
returns-clause-running c = λ pending run.
    let self = c.args.self.now in
    let r = c.index-rules-place.result in
    let at : slice_get c.args.rules.now c.args.place ≡ Some r = slice_get_read c.args.rules.now (length c.args.rules.now) c.args.place r refl c.requires.within c.index-rules-place.is in
    let inside : c.args.place < length self.free.items = omega arith in
    let known : c.index.result.now ≡ get_or self.free.items c.args.place 0 = c.index.ensures ∙ get_or_default self.free.items c.args.place c.index.result.now 0 inside in
    looked_ready c.args.rules.now self.order.items pending self.awaited self.free.items self.ready c.args.place c.free_from-free.result r at run
    (λ h. c.free_from-free.ensures.free (ap (λ n. list_all (is_free_by self.awaited) (take n (right_items r))) known ∙ h))
    c.insert.new.self (let long = c.right_len.ensures in omega arith) c.in_ok-insert.ensures.updates.1 (λ q other. c.in_ok-insert.ensures.updates.2 q (not_at c.args.place q other))
