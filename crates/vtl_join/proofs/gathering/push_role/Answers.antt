use Rattle.std.proofs.Common.{◌<◌, length, ap, sym, ◌∙◌}
use Rattle.vtl_join.specs.declared.joined.Operand.{Operand}
use Rattle.vtl_join.specs.Picks.{places_of}
use Rattle.vtl_join.proofs.Stepping.{picks_more}
use Rattle.vtl_join.proofs.gathering.push_role.Goals as goal

pub loop-i-preserved : goal.loop-i-preserved
loop-i-preserved c =
    let os = c.args.operands.now in
    let within : c.loop-i.i < length os = c.loop-i-test.true in
    let places = c.deref.ensures.value ∙ c.in_ok-places.ensures ∙ ap (places_of c.args.role) c.structure.ensures.structure ∙ ap (λ (o : Operand). places_of c.args.role o.set.structure) (sym c.index-operands-i.is) in
    picks_more c.args.role os c.loop-i.i c.index-operands-i.result c.deref.result.now c.args.picks.now.items c.loop-i.picks.items c.push_picks.new.picks.items within c.index-operands-i.is places c.loop-i.invariant c.in_ok-push_picks.ensures
