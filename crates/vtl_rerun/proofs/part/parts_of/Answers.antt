use Rattle.std.proofs.Common.{◌≡◌, ◌∙◌, ◌+◌, ◌∷◌, ap, arith, get_or, length, refl, sym}
use Rattle.vtl_check.proofs.LeftLemmas.{assigned_at, left, one_left}
use Rattle.vtl_rerun.proofs.Making.{all_made, begins, grown}
use Rattle.vtl_rerun.proofs.part.parts_of.Goals as goal

pub loop-i-init : goal.loop-i-init
loop-i-init c =
    begins c.args.script.now c.new-places.result c.in_ok-parts.parts.items c.nodes-nodes.ensures.declared c.nodes-nodes.ensures.typed (ap length (sym c.nodes-nodes.ensures.nodes) ∙ c.nodes-nodes.ensures.as_many) c.new-places.ensures c.in_ok-parts.ensures.items

pub loop-i-preserved : goal.loop-i-preserved
loop-i-preserved c =
    let t = c.args.script.now in
    let i = c.loop-i.i in
    let here : left c.args.script.now.script c.loop-i.i ≡ assigned_at c.loop-i.i c.in-Assignment.name c.in-Assignment.kind c.in-Assignment.value ∷ left c.args.script.now.script (c.loop-i.i + 1) =
    one_left t.script i c.index-statements-i.result (omega (arith, ap length c.statements-statements.ensures)) (c.index-statements-i.is ∙ ap (λ l. get_or l i c.index-statements-i.result) c.statements-statements.ensures) c.in-Assignment.name c.in-Assignment.kind c.in-Assignment.value c.in-Assignment.is in
    grown t i (length c.loop-i.parts.items) c.len-place.result c.loop-i.places c.put.new.self c.loop-i.parts.items c.push.new.self.items c.nodes-nodes.result.now _ c.in-Assignment.name c.in_ok-share.field-0 c.in-Assignment.kind c.in-Assignment.value c.loop-i.invariant here
    refl (c.len-place.ensures ∙ c.loop-i.parts.ok.0) c.nodes-nodes.ensures.nodes c.in_ok-put.ensures.put c.in_ok-share.ensures c.in_ok-push.ensures.items refl c.in_ok-share-2.ensures c.writes.ensures c.in_ok-operands.ensures

pub returns : goal.returns
returns c = all_made c.args.script.now c.loop-i.i (length c.loop-i.parts.items) c.loop-i.places c.loop-i.parts.items c.loop-i.invariant (omega (arith, ap length c.statements-statements.ensures)) c.nodes-nodes.ensures.declared c.nodes-nodes.ensures.typed
