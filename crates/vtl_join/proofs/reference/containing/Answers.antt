use Rattle.std.proofs.Common.{◌<◌, length, sym, ap, ◌∙◌, arith}
use Rattle.vtl_tree.specs.Pairs.{contains}
use Rattle.vtl_tree.specs.declared.structure.Structure.{Structure}
use Rattle.vtl_tree.proofs.Containing.{contains_onward, gives_way, stays}
use Rattle.vtl_meaning.specs.Joined.{structures_of}
use Rattle.vtl_join.specs.declared.joined.Operand.{Operand}
use Rattle.vtl_join.specs.Joining.{sets_of}
use Rattle.vtl_join.proofs.Referring.{structure_at, structures_many}
use Rattle.vtl_join.proofs.reference.containing.Goals.{then-not-contains, else-not-contains}
use Rattle.vtl_join.proofs.reference.containing.Goals as goal

pub loop-i-preserved : goal.loop-i-preserved
loop-i-preserved c =
    let os = c.args.operands.now in
    let ss = structures_of (sets_of os) in
    let many = structures_many os in
    let left = c.loop-i.left in
    let i = c.loop-i.i in
    let o = c.index-operands-left.result in
    let n = c.index-operands-i.result in
    let before : left < i = c.loop-i.invariant.before in
    let inside : i < length os = c.loop-i-test.true in
    let within : i < length ss = omega (arith, many, inside) in
    let is = structure_at os left o (omega (arith, before, inside)) c.index-operands-left.is in
    let next = structure_at os i n inside c.index-operands-i.is in
    let own = c.structure.ensures.structure ∙ ap (λ (x : Operand). x.set.structure) (sym c.index-operands-left.is) in
    let other = c.structure-in-loop-i.ensures.structure ∙ ap (λ (x : Operand). x.set.structure) (sym c.index-operands-i.is) in
    let answer = c.contains.ensures ∙ ap (λ (x : Structure). contains x c.structure-in-loop-i.result.now) own ∙ ap (contains o.set.structure) other in
    elim c.if-not-contains.branch [
      | then-not-contains w ↦ record {
        before = omega (arith, w.left-is);
        there = λ h. w.left-is ∙ gives_way contains contains_onward ss left i o.set.structure n.set.structure before within is next c.loop-i.invariant.there (sym answer ∙ w.if-not-contains.true) h;
      }
      | else-not-contains w ↦ record {
        before = omega (arith, w.left-is, before);
        there = λ h. w.left-is ∙ stays contains contains_onward ss left i o.set.structure n.set.structure before within is next c.loop-i.invariant.there (sym answer ∙ w.if-not-contains.false) h;
      }
    ]
