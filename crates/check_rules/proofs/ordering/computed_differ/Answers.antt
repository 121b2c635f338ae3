use Rattle.std.proofs.Common.{◌≡◌, ◌++◌, ap, sym, ◌∙◌, arith, append-nil}
use Rattle.std.proofs.lemmas.List.{drop_all}
use Rattle.std.proofs.lemmas.Result.{IfOk-weaker}
use Rattle.vtl_lists.specs.Apart.{all_apart}
use Rattle.vtl_tree.specs.Structure.{same_name}
use Rattle.check_rules.specs.Order.{computed_items}
use Rattle.check_rules.proofs.SideLemmas.{computed_step}
use Rattle.check_rules.proofs.ordering.computed_differ.Goals as goal

pub loop-place-init : goal.loop-place-init
loop-place-init c = ap (λ l. l ++ computed_items c.args.rules.now) c.new-items.ensures.items

pub loop-place-preserved : goal.loop-place-preserved
loop-place-preserved c =
    computed_step c.args.rules.now c.loop-place.place c.index-rules-place.result c.loop-place.items.items c.push_computed.new.items.items (computed_items c.args.rules.now) (omega arith) c.index-rules-place.is c.in_ok-push_computed.ensures c.loop-place.invariant

pub returns : goal.returns
returns c =
    let all : c.loop-place.items.items ≡ computed_items c.args.rules.now =
    sym (append-nil c.loop-place.items.items)
    ∙ sym (ap (λ l. c.loop-place.items.items ++ computed_items l) (drop_all c.loop-place.place c.args.rules.now (omega arith)))
    ∙ c.loop-place.invariant in
    IfOk-weaker c.are_distinct.result _ _ (λ b e. e ∙ ap (all_apart same_name) (c.deref.ensures.value ∙ all)) c.are_distinct.ensures
