use Rattle.std.proofs.Common.{◌<◌, length, sym, ◌∙◌, arith}
use Rattle.std.proofs.lemmas.List.{length-map}
use Rattle.vtl_tree.specs.Pairs.{contains}
use Rattle.vtl_tree.specs.Shown.{shown}
use Rattle.vtl_tree.proofs.Containing.{contains_onward, gives_way, stays}
use Rattle.joins_to_sql.proofs.References.{shown_at}
use Rattle.joins_to_sql.proofs.join_operands.left_over.Goals.{then-not-contains, else-not-contains}
use Rattle.joins_to_sql.proofs.join_operands.left_over.Goals as goal

pub loop-i-preserved : goal.loop-i-preserved
loop-i-preserved c =
    let bs = c.args.structures.now in
    let ss = shown bs in
    let many = length-map bs (λ b. b.now) in
    let left = c.loop-i.left in
    let i = c.loop-i.i in
    let a = c.index-structures-left.result in
    let b = c.index-structures-i.result in
    let before : left < i = c.loop-i.invariant.before in
    let inside : i < length bs = c.loop-i-test.true in
    let within : i < length ss = omega (arith, many, inside) in
    let is = shown_at bs left a (omega (arith, before, inside)) c.index-structures-left.is in
    let next = shown_at bs i b inside c.index-structures-i.is in
    let answer = c.contains.ensures in
    elim c.if-not-contains.branch [
      | then-not-contains w ↦ record {
        before = omega (arith, w.left-is);
        there = λ h. w.left-is ∙ gives_way contains contains_onward ss left i a.now b.now before within is next c.loop-i.invariant.there (sym answer ∙ w.if-not-contains.true) h;
      }
      | else-not-contains w ↦ record {
        before = omega (arith, w.left-is, before);
        there = λ h. w.left-is ∙ stays contains contains_onward ss left i a.now b.now before within is next c.loop-i.invariant.there (sym answer ∙ w.if-not-contains.false) h;
      }
    ]
