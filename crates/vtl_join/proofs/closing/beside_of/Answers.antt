use Rattle.std.proofs.Common.{◌≡◌, List, get_or, sym, ap, subst, ◌∙◌}
use Rattle.std.specs.Prelude.{IfOk}
use Rattle.vtl_cell.specs.Row.{Row}
use Rattle.vtl_meaning.specs.Joined.{structures_of}
use Rattle.vtl_join.specs.Gatherings.{points_of}
use Rattle.vtl_join.specs.declared.joined.Operand.{Operand}
use Rattle.vtl_join.specs.Joining.{sets_of}
use Rattle.vtl_join.proofs.Closed.{Refers, beside_identifiers, beside_join, refers}
use Rattle.vtl_join.proofs.closing.beside_of.Goals as goal

pub beside_lead-requires-clause-lead : goal.beside_lead-requires-clause-lead
beside_lead-requires-clause-lead c =
    let ds = sets_of c.args.operands.now in
    let r = subst (λ (o : Operand). Refers c.args.kind ds c.reference_place-place.result o.set c.args.made.now) c.index-operands-place.is (refers c.args.kind c.args.operands.now c.args.made.now c.reference_place-place.result c.index-operands-place.result c.requires.made c.operands_are_sets.ensures c.reference_place-place.ensures c.index-operands-place.is) in
    r.there

pub beside_lead-requires-clause-identifiers : goal.beside_lead-requires-clause-identifiers
beside_lead-requires-clause-identifiers c =
    let ds = sets_of c.args.operands.now in
    let r = subst (λ (o : Operand). Refers c.args.kind ds c.reference_place-place.result o.set c.args.made.now) c.index-operands-place.is (refers c.args.kind c.args.operands.now c.args.made.now c.reference_place-place.result c.index-operands-place.result c.requires.made c.operands_are_sets.ensures c.reference_place-place.ensures c.index-operands-place.is) in
    let o = get_or c.args.operands.now c.reference_place-place.result c.index-operands-place.result in
    beside_identifiers c.args.kind o.set.structure c.args.made.now (structures_of ds) c.requires.beside r.together

pub returns-clause-points : goal.returns-clause-points
returns-clause-points c =
    let ds = sets_of c.args.operands.now in
    let r = subst (λ (o : Operand). Refers c.args.kind ds c.reference_place-place.result o.set c.args.made.now) c.index-operands-place.is (refers c.args.kind c.args.operands.now c.args.made.now c.reference_place-place.result c.index-operands-place.result c.requires.made c.operands_are_sets.ensures c.reference_place-place.ensures c.index-operands-place.is) in
    let o = get_or c.args.operands.now c.reference_place-place.result c.index-operands-place.result in
    subst (λ (l : List Row). IfOk c.beside_lead.result (λ b. points_of b.gathering b.tuples.items ≡ l)) (beside_join c.args.kind o.set ds c.requires.beside ∙ sym r.join) c.beside_lead.ensures.points
